-- What is on the line between the frames that were taken off it and the newest: data,
-- acknowledgements, and what is held.
use Rattle.std.specs.Prelude.{◌≡◌, ◌⊎◌, ℕ, ◌+◌, ◌≤◌, ◌<◌, true, List, ◌∷◌, length}
use Rattle.trace_text.specs.Past.{PastFrame, said, acked, at, IsDataOf, IsAckOf, is_data_of}
use Rattle.trace_text.specs.declared.frame.End.{End}
use Rattle.trace_text.specs.Faults.{comes, faulted, late_of, newest}

-- the newest fragment of X is on the line
pub record DataPends (X : End) (past : List PastFrame) (cx : ℕ) : Type 0 where
  pub n : ℕ
  pub frame : PastFrame
  pub older : List PastFrame
  pub from : cx < n
  pub inside : n ≤ length past
  pub here : at n past ≡ frame ∷ older
  pub is : IsDataOf X frame
  pub comes_here : comes frame.course ≡ true
  pub newest_is : length (said X (at n past)) ≡ length (said X past)

-- an acknowledgement of it by Y is
pub record AckPends (X Y : End) (past : List PastFrame) (cy : ℕ) : Type 0 where
  pub n : ℕ
  pub frame : PastFrame
  pub older : List PastFrame
  pub from : cy < n
  pub inside : n ≤ length past
  pub here : at n past ≡ frame ∷ older
  pub is : IsAckOf Y frame
  pub comes_here : comes frame.course ≡ true
  pub newest_is : length (acked Y (at n past)) ≡ length (said X past)

-- X waits since the last tick, and a fault stands behind its newest data, or this or its
-- acknowledgement is on the line
pub record Progress (X Y : End) (past : List PastFrame) (cx cy released : ℕ) : Type 0 where
  pub since : released < newest (is_data_of X) past
  pub cause : (newest (is_data_of X) past ≤ newest faulted past) ⊎ DataPends X past cx
      ⊎ AckPends X Y past cy

-- nothing of X can be delivered: all was taken off, or the next frame is late and held
pub record IsHeld (X : End) (past : List PastFrame) (c released : ℕ) : Type 0 where
  pub frame : PastFrame
  pub older : List PastFrame
  pub inside : c < length past
  pub here : at (c + 1) past ≡ frame ∷ older
  pub late : late_of X frame ≡ true
  pub above : released < c + 1

abbrev pub IsBlocked : End → List PastFrame → ℕ → ℕ → Type 0
IsBlocked X past c released = (c ≡ length past) ⊎ IsHeld X past c released
