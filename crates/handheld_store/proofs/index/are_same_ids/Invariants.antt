use Rattle.std.proofs.Common.{◌≡◌, take}
use Rattle.palm_device.specs.Soundness.{ids_of}
use Rattle.handheld_store.proofs.index.are_same_ids.Given as goal

abbrev pub invariant-loop-place : goal.invariant-loop-place
invariant-loop-place l = ids_of (take l.place l.ones) ≡ ids_of (take l.place l.others)
