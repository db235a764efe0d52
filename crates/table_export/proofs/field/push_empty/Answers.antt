use Rattle.std.proofs.Common.{◌≡◌, ◌∙◌, ◌++◌, [], arith, ap}
use Rattle.std.specs.Prelude.{replicate}
use Rattle.csv.specs.Records.{fields_of}
use Rattle.table_export.proofs.RowLaws.{empty-grown}
use Rattle.table_export.proofs.field.push_empty.Goals as goal

pub loop-number-preserved : goal.loop-number-preserved
loop-number-preserved c = empty-grown _ _ _ c.loop-number.number c.loop-number.invariant c.in_ok-push_field.ensures.fields

pub returns : goal.returns
returns c =
    let all : c.loop-number.number ≡ c.args.count = omega arith in
    c.loop-number.invariant ∙ ap (λ n. fields_of c.args.row.now ++ replicate n []) all
