use Rattle.std.proofs.Common.{◌≡◌, take}
use Rattle.palm_device.specs.Records.{with_records}
use Rattle.record_merge.specs.Writes.{after, replaces}
use Rattle.database_merge.specs.Places.{HasPlaces}
use Rattle.database_merge.proofs.writing.replace_all.Given as goal

abbrev pub invariant-loop-row : goal.invariant-loop-row
invariant-loop-row l = record {
  written : l.database ≡ with_records (after (replaces (take l.row-index l.rows)) l.fn.database.records) l.fn.database;
  placed : HasPlaces l.database.records l.places;
}
