use Rattle.std.proofs.Common.{◌≡◌, ◌++◌, map, take, drop}
use Rattle.palm_device.specs.FreshIds.{with_ids}
use Rattle.palm_device.specs.Records.{with_records}
use Rattle.handheld_files.specs.Settled.{idle}
use Rattle.handheld_files.proofs.settling.settle_records.Given as goal

abbrev pub invariant-loop-place : goal.invariant-loop-place
invariant-loop-place l = l.database ≡ with_records
    (map idle (with_ids (take l.place l.ids) (take l.place l.fn.database.records)) ++ drop l.place l.fn.database.records) l.fn.database
