use Rattle.std.proofs.Common.{◌≡◌, ◌++◌}
use Rattle.palm_records.specs.Addresses.{address_value}
use Rattle.csv.specs.Records.{fields_of}
use Rattle.table_export.specs.Addresses.{columns_before}
use Rattle.table_export.proofs.address.push_address.Given as goal

abbrev pub invariant-loop-number : goal.invariant-loop-number
invariant-loop-number l = fields_of l.row ≡ fields_of l.initial.row ++ columns_before l.number (address_value l.address)
