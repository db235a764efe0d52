use Rattle.std.proofs.Common.{◌≡◌, ◌∙◌, ◌++◌, arith, ap}
use Rattle.palm_records.specs.Addresses.{address_value}
use Rattle.csv.specs.Records.{fields_of}
use Rattle.table_export.specs.Addresses.{columns_before}
use Rattle.table_export.proofs.RowLaws.{columns-grown, columns-none}
use Rattle.table_export.proofs.address.push_address.Goals as goal

pub loop-number-init : goal.loop-number-init
loop-number-init c = columns-none _ (address_value c.args.address.now)

pub loop-number-preserved : goal.loop-number-preserved
loop-number-preserved c =
    columns-grown _ _ _ (address_value c.args.address.now) c.loop-number.number c.loop-number.invariant c.in_ok-push_field.ensures

pub returns : goal.returns
returns c =
    let all : c.loop-number.number ≡ 19 = omega arith in
    c.loop-number.invariant ∙ ap (λ n. fields_of c.args.row.now ++ columns_before n (address_value c.args.address.now)) all
