-- The frame bears what is read of its bytes.
use Rattle.std.proofs.Common.{sym, ◌∙◌}
use Rattle.trace_text.specs.TraceLines.{frame_value}
use Rattle.trace_check.proofs.BearingLaws.{fragment-bears}
use Rattle.trace_check.proofs.SendingLaws.{sent-abort, sent-some}
use Rattle.trace_check.proofs.sent.sent_in.Goals as goal

pub returns-in_default : goal.returns-in_default
returns-in_default c =
    let none = rw c.as_slice.ensures.value at c.in_default.ensures.none in
    absurd (none _ _ (fragment-bears (frame_value c.args.frame.now) c.requires))

pub returns-then-is_abort : goal.returns-then-is_abort
returns-then-is_abort c =
    let bears = rw c.as_slice.ensures.value at c.in-Some.ensures.some in
    sent-abort (frame_value c.args.frame.now) bears (sym c.is_abort.ensures ∙ c.if-is_abort.true)

pub returns : goal.returns
returns c past =
    let bears = rw c.as_slice.ensures.value at c.in-Some.ensures.some in
    sent-some (frame_value c.args.frame.now) bears (sym c.is_abort.ensures ∙ c.if-is_abort.false) past ∙ cc (c.is_data.ensures, c.key.ensures, c.course_of.ensures)
