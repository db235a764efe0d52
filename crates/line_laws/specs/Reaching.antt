-- Rules (c) to (g) of a proper trace, over the frames so far and the two cursors: frame n of an end
-- came exactly where n is at most its cursor and its
-- course comes.
use Rattle.std.specs.Prelude.{◌≡◌, ℕ, ◌≤◌, ◌<◌, true, false, List, [], ◌∷◌, length}
use Rattle.trace_text.specs.Faults.{IsHeldIn, RepeatsHaveFaults}
use Rattle.trace_text.specs.Past.{PastFrame, said, is_data_of, is_repeat}
use Rattle.trace_text.specs.declared.frame.End.{End}
use Rattle.line_laws.specs.Trace.{AcksFollow, IsAcknowledged}

-- a frame of Y that was taken, and isn't held at this time, acknowledges the newest fragment of X
pub record AckIsTaken (X Y : End) (past : List PastFrame) (cy : ℕ) : Type 0 where
  pub by : IsAcknowledged X Y past cy
  pub free : IsHeldIn Y (by.n) past → ⊥

-- (e), (f): each new fragment of X, but its first one, stands behind a frame that reached X and
-- acknowledged the fragment before it
abbrev pub BeginsReached : End → End → ℕ → List PastFrame → Type 0
BeginsReached X Y cy [] = Unit {0}
BeginsReached X Y cy (frame ∷ past) =
    (is_data_of X frame ≡ true → is_repeat X frame past ≡ false → 0 < length (said X past)
    → AckIsTaken X Y past cy) × BeginsReached X Y cy past

-- what was taken isn't held
abbrev pub NoneHeld : End → List PastFrame → ℕ → Type 0
NoneHeld X past cx = (n : ℕ) → n ≤ cx → IsHeldIn X n past → ⊥

pub record Proper (X Y : End) (past : List PastFrame) (cx cy : ℕ) : Type 0 where
  pub x_free : NoneHeld X past cx
  pub y_free : NoneHeld Y past cy
  pub faults : RepeatsHaveFaults past
  pub x_begins : BeginsReached X Y cy past
  pub y_begins : BeginsReached Y X cx past
  pub x_acks : AcksFollow X Y past cx
  pub y_acks : AcksFollow Y X past cy
