use Rattle.std.proofs.Common.{arith, subst}
use Rattle.std.specs.Prelude.{IsUtf8}
use Rattle.csv.specs.Records.{AllText, fields_of}
use Rattle.csv.proofs.RecordFacts.{text-step}
use Rattle.table_export.proofs.csv_row.fields_are_text.Goals as goal

pub loop-place-init : goal.loop-place-init
unfolding AllText
loop-place-init c = tt

pub loop-place-preserved : goal.loop-place-preserved
loop-place-preserved c =
    text-step (fields_of c.args.row.now) c.loop-place.place (omega arith) c.loop-place.invariant (subst IsUtf8 c.field_in-field.ensures c.field_in-field.utf8)
