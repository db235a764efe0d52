use Rattle.std.proofs.Common.{take}
use Rattle.csv.specs.Records.{AllText, fields_of}
use Rattle.table_export.proofs.csv_row.fields_are_text.Given as goal

abbrev pub invariant-loop-place : goal.invariant-loop-place
invariant-loop-place l = AllText (take l.place (fields_of l.row))
