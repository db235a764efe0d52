use Rattle.std.proofs.Common.{◌≡◌, ℕ, take}
use Rattle.std.specs.BTreeSet.{contains}
use Rattle.std.specs.Ordering.{nat_cmp}
use Rattle.palm_device.specs.FreshIds.{is_among}
use Rattle.handheld_files.proofs.fresh.numbers_of.Given as goal

abbrev pub invariant-loop-place : goal.invariant-loop-place
invariant-loop-place l = (x : ℕ) → contains nat_cmp l.numbers x ≡ is_among x (take l.place l.ids)
