-- The next frame of an end, and what the other end heard of it.
use Rattle.std.specs.Prelude.{◌≡◌, ℕ, ◌+◌, ◌≤◌, true, Some, slice_get}
use Rattle.padp_link.specs.declared.piece.Key.{Key}
use Rattle.padp_link.specs.declared.receiver.Taken.{Taken}
use Rattle.padp_link.specs.Collecting.{data_fragment}
use Rattle.padp_link.specs.Receivers.{ReceiverValue, Answers, after_answer}
use Rattle.trace_text.specs.declared.frame.End.{End}
use Rattle.trace_text.specs.declared.frame.Frame.{Frame}
use Rattle.trace_text.specs.Faults.{comes, is_late}
use Rattle.trace_text.specs.Past.{is_end, IsDataOf, IsAckOf}
use Rattle.line_steps.specs.declared.half.Half.{Half}
use Rattle.line_steps.specs.declared.half.Wire.{Wire}
use Rattle.line_steps.specs.Running.{sent_of, Holds}

-- the frame behind so many is of this end, comes, and isn't held
pub record Delivers (X : End) (wire : Wire) (n : ℕ) : Type 0 where
  pub frame : Frame
  pub here : slice_get wire.frames.items n ≡ Some frame
  pub from_is : is_end X frame.from ≡ true
  pub comes_here : comes (sent_of frame).course ≡ true
  pub free : is_late (sent_of frame).course ≡ true → n + 1 ≤ wire.released

-- it is the acknowledgement of the data fragment with this key
pub record AckNext (X : End) (wire : Wire) (n : ℕ) (key : Key) : Type 0 where
  pub next : Delivers X wire n
  pub is : IsAckOf X (sent_of next.frame)
  pub key_is : (sent_of next.frame).key ≡ key

-- y heard the next frame of x, which is data with this key
pub record DataHeard (wire : Wire) (x y : Half) (key : Key) (taken : Taken) : Type 0 where
  pub before : ReceiverValue
  pub holds : Holds wire x (record y { receiver = before })
  pub next : Delivers x.end wire x.taken
  pub is : IsDataOf x.end (sent_of next.frame)
  pub key_is : (sent_of next.frame).key ≡ key
  pub answers : Answers before key.id (data_fragment key (sent_of next.frame).bytes) taken
  pub after : y.receiver
      ≡ after_answer before key.id (data_fragment key (sent_of next.frame).bytes) taken
