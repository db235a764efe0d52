use Rattle.std.proofs.Common.{◌≡◌, ◌++◌, map, take, drop, length}
use Rattle.palm_device.specs.Records.{with_records, clean}
use Rattle.palm_device.proofs.record.reset_all.Given as goal

abbrev pub invariant-loop-place : goal.invariant-loop-place
invariant-loop-place l = record {
  done : l.database ≡ with_records (map clean (take l.place l.fn.database.records) ++ drop l.place l.fn.database.records) l.fn.database;
  within : l.place-end ≡ length l.fn.database.records;
}
