use Rattle.std.proofs.Common.{◌≡◌, ◌++◌, map, take, drop, length}
use Rattle.palm_device.specs.Records.{with_records, moved}
use Rattle.palm_device.proofs.record.move_all.Given as goal

abbrev pub invariant-loop-place : goal.invariant-loop-place
invariant-loop-place l = record {
  done : l.database ≡ with_records (map (moved l.from l.to) (take l.place l.fn.database.records) ++ drop l.place l.fn.database.records) l.fn.database;
  within : l.place-end ≡ length l.fn.database.records;
}
