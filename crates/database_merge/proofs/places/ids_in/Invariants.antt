use Rattle.std.proofs.Common.{◌≡◌, take}
use Rattle.palm_device.specs.Soundness.{ids_of}
use Rattle.database_merge.proofs.places.ids_in.Given as goal

abbrev pub invariant-loop-place : goal.invariant-loop-place
invariant-loop-place l = l.ids.keys ≡ ids_of (take l.place l.items)
