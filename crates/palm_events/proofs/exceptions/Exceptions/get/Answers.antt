use Rattle.std.proofs.Common.{◌∙◌, Some, ap, sym}
use Rattle.palm_records.specs.Days.{day_of}
use Rattle.palm_events.proofs.ExceptionLaws.{slice_get-days_in, slice_get-days_in_past}
use Rattle.palm_events.proofs.exceptions.Exceptions.get.Goals as goal

pub returns-then-index-self : goal.returns-then-index-self
returns-then-index-self c =
    ap Some (c.day_of.ensures ∙ ap day_of c.word_at.ensures) ∙ sym (slice_get-days_in c.args.self.now.bytes.now c.args.index c.if-index-self.true)

pub returns-else-index-self : goal.returns-else-index-self
returns-else-index-self c = sym (slice_get-days_in_past c.args.self.now.bytes.now c.args.index c.if-index-self.false)
