-- What was sent in a frame is what its bytes bear.
use Rattle.std.proofs.Common.{◌≡◌, ℕ, true, false, List, ◌∷◌, ap, ◌∙◌}
use Rattle.std.proofs.lemmas.Bool.{cond-true, cond-false}
use Rattle.padp_link.specs.FragmentText.{FragmentValue}
use Rattle.padp_link.specs.Pieces.{key_of}
use Rattle.trace_text.specs.Frames.{course_of, is_data_kind, is_abort, sent_in, add_frame}
use Rattle.trace_text.specs.Past.{PastFrame}
use Rattle.trace_text.specs.TraceLines.{FrameValue}
use Rattle.trace_check.specs.Bearing.{Bears}
use Rattle.trace_check.proofs.BearingLaws.{bears-read}

-- what is sent in a frame with this fragment
abbrev pub sent_with : FrameValue → ℕ → FragmentValue → PastFrame
sent_with frame id fragment = record {
  from = frame.from;
  is_data = is_data_kind fragment.kind;
  key = key_of id fragment;
  bytes = fragment.bytes;
  course = course_of frame.fate;
}

pub sent-abort : (frame : FrameValue) {id : ℕ} {fragment : FragmentValue} → Bears frame.bytes id fragment → is_abort fragment.kind ≡ true
    → (past : List PastFrame) → add_frame frame past ≡ past
sent-abort frame bears aborts past =
    cond-true _ past (sent_in frame ∷ past) (ap (λ (f : FragmentValue). is_abort f.kind) (bears-read frame bears).1 ∙ aborts)

pub sent-some : (frame : FrameValue) {id : ℕ} {fragment : FragmentValue} → Bears frame.bytes id fragment → is_abort fragment.kind ≡ false
    → (past : List PastFrame) → add_frame frame past ≡ sent_with frame id fragment ∷ past
sent-some frame {id} {fragment} bears goes past =
    let read = bears-read frame bears in
    let is : sent_in frame ≡ sent_with frame id fragment = ap (sent_with frame _) read.1 ∙ ap (λ n. sent_with frame n fragment) read.0 in
    cond-false _ past (sent_in frame ∷ past) (ap (λ (f : FragmentValue). is_abort f.kind) read.1 ∙ goes) ∙ ap (λ s. s ∷ past) is
