use Rattle.std.proofs.Common.{arith, subst, sym, Result, Ok, Err}
use Rattle.std.specs.Prelude.{OnOk}
use Rattle.calendar_export.specs.declared.kind.Kind.TheVariants.{Dates}
use Rattle.calendar_export.specs.Exports.{content_in, date_or}
use Rattle.calendar_export.specs.Items.{IsContent}
use Rattle.calendar_export.proofs.export.push_date.Goals as goal

on_ok : {T E : Type 0} (r : Result T E) (P : Type 0) → P → OnOk r P
on_ok (Ok x) P p = p
on_ok (Err e) P p = tt

pub returns-in-Ok-clause-text : goal.returns-in-Ok-clause-text
returns-in-Ok-clause-text c = rw c.in-Ok.ensures.said c.push_event.ensures.text

pub returns-in-Ok-clause-form : goal.returns-in-Ok-clause-form
returns-in-Ok-clause-form c = rw c.in-Ok.ensures.said c.push_event.ensures.form

pub returns-in-Err-clause-text : goal.returns-in-Err-clause-text
returns-in-Err-clause-text c = rw c.in-Err.ensures.said c.push_journal.ensures

pub returns-in-Err-clause-form : goal.returns-in-Err-clause-form
returns-in-Err-clause-form c =
    let bytes = c.args.bytes.now in
    on_ok c.push_journal.result (IsContent Dates (content_in Dates bytes))
    (subst (λ said. IsContent Dates (date_or bytes said)) (sym c.in-Err.ensures.said) (λ i. omega (arith, c.type_inv.bytes i)))
