use Rattle.std.proofs.Common.{◌≡◌, map, take}
use Rattle.csv.specs.Records.{fields_of}
use Rattle.table_export.specs.Tables.{marked}
use Rattle.table_export.proofs.mark.marked_row.Given as goal

abbrev pub invariant-loop-place : goal.invariant-loop-place
invariant-loop-place l = fields_of l.shown ≡ map marked (take l.place (fields_of l.row))
