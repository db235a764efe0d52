-- What the rules of a proper trace need: repeats, held frames, and what came against what was
-- acknowledged.
use Rattle.std.specs.Prelude.{◌≡◌, ◌⊎◌, ℕ, ◌+◌, ◌≤◌, ◌<◌, Bool, true, false, ◌&&◌, not, List, [], ◌∷◌, length, Some}
use Rattle.padp_link.specs.declared.piece.Key.{Key}
use Rattle.trace_text.specs.Faults.{comes, late_of, data_comes, newest, RepeatsHaveFaults, last_repeat, newest_repeat}
use Rattle.trace_text.specs.Past.{PastFrame, is_end, first, said, acked, at, IsDataOf, IsAckOf, keys}
use Rattle.trace_text.specs.declared.frame.End.{End}

-- what was taken was released
pub record Release (X : End) (past : List PastFrame) (cx released : ℕ) : Type 0 where
  pub late : newest (late_of X) (at cx past) ≤ released
  pub repeated : (released ≡ 0) ⊎ (released < newest_repeat past)
  pub near : last_repeat X past ≤ released + 2

-- the keys of the data frames of X that come, the newest first, and of the acknowledgements of Y
abbrev pub cons_if : Bool → Key → List Key → List Key
cons_if true key keys = key ∷ keys
cons_if false key keys = keys

abbrev pub came_keys : End → List PastFrame → List Key
came_keys X [] = []
came_keys X (frame ∷ past) = cons_if (data_comes X frame) frame.key (came_keys X past)

abbrev pub ack_keys : End → List PastFrame → List Key
ack_keys Y [] = []
ack_keys Y (frame ∷ past) =
    cons_if (is_end Y frame.from && not frame.is_data) frame.key (ack_keys Y past)

-- each data frame that was taken was acknowledged, in order
abbrev pub AcksFollow : End → End → List PastFrame → ℕ → Type 0
AcksFollow X Y past cx = ack_keys Y past ≡ came_keys X (at cx past)

-- No acknowledgement of the newest fragment of X was taken: none of its key that stands behind the
-- fragment's first frame.
abbrev pub NoAck : End → End → List PastFrame → ℕ → Key → Type 0
NoAck X Y past cy key =
    (n : ℕ) (frame : PastFrame) (older : List PastFrame) → n ≤ cy → at n past ≡ frame ∷ older
    → IsAckOf Y frame → comes frame.course ≡ true → length (said X (at n past))
    ≡ length (said X past) → frame.key ≡ key → ⊥

-- The newest fragment of X was acknowledged, by a frame of Y that was taken: an acknowledgement of
-- its key behind its first frame, or data of Y
-- that acknowledges all that X said.
pub record IsAcknowledged (X Y : End) (past : List PastFrame) (cy : ℕ) : Type 0 where
  pub n : ℕ
  pub frame : PastFrame
  pub older : List PastFrame
  pub some : 0 < n
  pub before : n ≤ cy
  pub here : at n past ≡ frame ∷ older
  pub came : comes frame.course ≡ true
  pub cause : (IsAckOf Y frame × (length (said X (at n past)) ≡ length (said X past))
      × (first (said X past) ≡ Some frame.key))
      ⊎ (IsDataOf Y frame × (length (acked Y (at n past)) ≡ length (said X past)))

-- at no time had Y acknowledged more than X had said
abbrev pub AcksBehind : End → End → List PastFrame → Type 0
AcksBehind X Y past =
    (n : ℕ) → n ≤ length past → length (acked Y (at n past)) ≤ length (said X (at n past))

-- all that is known of the trace beside the two ends and their time
pub record TraceFacts (X Y : End) (past : List PastFrame) (cx cy released : ℕ) : Type 0 where
  pub x_release : Release X past cx released
  pub y_release : Release Y past cy released
  pub x_acks : AcksFollow X Y past cx
  pub y_acks : AcksFollow Y X past cy
  pub x_behind : AcksBehind X Y past
  pub y_behind : AcksBehind Y X past
  pub faults : RepeatsHaveFaults past
