-- What the bytes bear, and whether the fate lets the frame bear it.
use Rattle.trace_check.proofs.BearingLaws.{bears-fragment, fragment-bears, fragment-may}
use Rattle.trace_text.specs.TraceLines.{frame_value}
use Rattle.trace_check.proofs.bearing.bears_fragment.Goals as goal

pub returns-in-Some : goal.returns-in-Some
returns-in-Some c =
    let bears = rw c.as_slice.ensures.value at c.in-Some.ensures.some in
    (λ may. bears-fragment (frame_value c.args.frame.now) _ _ bears (c.may_bear.ensures.0 may), λ known. c.may_bear.ensures.1 (fragment-may (frame_value c.args.frame.now) _ _ bears known))

pub returns-in-None : goal.returns-in-None
returns-in-None c =
    let none = rw c.as_slice.ensures.value at c.in-None.ensures.none in
    (λ none_is. absurd cc, λ known. absurd (none _ _ (fragment-bears (frame_value c.args.frame.now) known)))
