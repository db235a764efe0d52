use Rattle.std.proofs.Common.{◌≡◌, ◌++◌, []}
use Rattle.std.specs.Prelude.{replicate}
use Rattle.csv.specs.Records.{fields_of}
use Rattle.table_export.proofs.field.push_empty.Given as goal

abbrev pub invariant-loop-number : goal.invariant-loop-number
invariant-loop-number l = fields_of l.row ≡ fields_of l.initial.row ++ replicate l.number []
