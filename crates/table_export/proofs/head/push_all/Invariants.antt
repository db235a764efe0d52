use Rattle.std.proofs.Common.{◌≡◌, ◌++◌, map, take}
use Rattle.csv.specs.Records.{fields_of}
use Rattle.table_export.proofs.head.push_all.Given as goal

abbrev pub invariant-loop-name : goal.invariant-loop-name
invariant-loop-name l = fields_of l.row ≡ fields_of l.initial.row ++ map (λ name. name.now) (take l.name-index l.names)
