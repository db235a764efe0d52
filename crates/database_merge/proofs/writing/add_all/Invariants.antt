use Rattle.std.proofs.Common.{◌≡◌}
use Rattle.palm_device.specs.Records.{with_records}
use Rattle.database_merge.specs.Places.{HasPlaces}
use Rattle.database_merge.proofs.WriteLaws.{IsAdded}
use Rattle.database_merge.proofs.writing.add_all.Given as goal

abbrev pub invariant-loop-content : goal.invariant-loop-content
invariant-loop-content l = record {
  rest : l.database ≡ with_records l.database.records l.fn.database;
  placed : HasPlaces l.database.records l.places;
  added : IsAdded l.given.items l.adds l.content-index l.fn.database.records l.database.records;
}
