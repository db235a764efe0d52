use Rattle.std.proofs.Common.{◌≡◌, ℕ, take}
use Rattle.std.specs.BTreeMap.{get}
use Rattle.std.specs.Ordering.{nat_cmp}
use Rattle.palm_device.specs.Records.{place_of_id}
use Rattle.mirrors.proofs.rows.places_of.Given as goal

abbrev pub invariant-loop-place : goal.invariant-loop-place
invariant-loop-place l = (id : ℕ) → get nat_cmp l.places id ≡ place_of_id id (take l.place l.base)
