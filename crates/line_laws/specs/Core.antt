-- What holds of both ends and of the frames between them after every step, whatever the script
-- says.
use Rattle.std.specs.Prelude.{◌≡◌, ◌⊎◌, ℕ, ◌+◌, ◌≤◌, ◌<◌, Bool, true, false, List, [], ◌∷◌, length, if◌then◌else◌, Some}
use Rattle.padp_link.specs.declared.piece.Key.{Key}
use Rattle.padp_link.specs.FragmentText.{FragmentValue}
use Rattle.padp_link.specs.Pieces.{piece_count, piece_of, fragment_of}
use Rattle.padp_link.specs.Collecting.{taken_pieces}
use Rattle.padp_link.specs.Receivers.{ReceiverValue}
use Rattle.trace_text.specs.Past.{FrameCourse, PastFrame, is_end, first, said, acked, at, IsDataOf}
use Rattle.trace_text.specs.declared.frame.End.{End}

-- two ends
pub record Apart (X Y : End) : Type 0 where
  pub there : is_end X Y ≡ false
  pub back : is_end Y X ≡ false

-- the keys that were said are those that were acknowledged, or one more
abbrev pub Follows : List Key → List Key → Bool → Type 0
Follows said acked false = said ≡ acked
Follows said acked true = (key : Key) × (said ≡ key ∷ acked)

-- In this past of the frames of X, where the other end took `a` fragments and said `s`: no fragment
-- of X is older than the last that was taken, no
-- acknowledgement by X is older than the one before the last that the other said, and it isn't that
-- one behind a fragment that wasn't taken.
pub record Fits (X : End) (a s : ℕ) (past : List PastFrame) : Type 0 where
  pub taken : a ≤ length (said X past)
  pub known : s ≤ length (acked X past) + 1
  pub begun : a < length (said X past) → s ≤ length (acked X past)

-- so at each frame from the cursor on
abbrev pub AllFit : End → ℕ → ℕ → ℕ → List PastFrame → Type 0
AllFit X a s cur past = (n : ℕ) → cur ≤ n → n ≤ length past → Fits X a s (at n past)

-- one direction of the line, from X to Y
pub record Counts (X Y : End) (past : List PastFrame) (fresh : Bool) (cur : ℕ) : Type 0 where
  pub follows : Follows (said X past) (acked Y past) fresh
  pub cur_in : cur ≤ length past
  pub fits : AllFit X (length (acked Y past)) (length (said Y past)) cur past

-- the message that an end sends, and how many of its pieces are acknowledged
pub record Side : Type 0 where
  pub id : ℕ
  pub message : List ℕ
  pub acknowledged : ℕ

-- a piece of its message waits
abbrev pub Waiting : Side → Type 0
Waiting side = side.acknowledged < piece_count (length side.message)

-- its key and its bytes
abbrev pub key_now : Side → Key
key_now side = (piece_of side.id (length side.message) side.acknowledged).key

abbrev pub part_now : Side → FragmentValue
part_now side = fragment_of side.message (piece_of side.id (length side.message) side.acknowledged)

-- each data frame of its newest fragment bears this part
abbrev pub AllBear : End → List PastFrame → List ℕ → Type 0
AllBear X past bytes =
    (n : ℕ) (frame : PastFrame) (older : List PastFrame) → n ≤ length past
    → at n past ≡ frame ∷ older → IsDataOf X frame
    → length (said X (frame ∷ older)) ≡ length (said X past) → frame.bytes ≡ bytes

-- an end that sends
pub record Speaks (X : End) (past : List PastFrame) (fresh : Bool) (side : Side) : Type 0 where
  pub waits : fresh ≡ true → Waiting side
  pub newest : Waiting side → first (said X past) ≡ Some (key_now side)
  pub newest_id : (key : Key) → first (said X past) ≡ Some key → key.id ≡ side.id
  pub bytes : Waiting side → AllBear X past (part_now side).bytes

-- how many pieces of the message the other end took
abbrev pub taken_count : Bool → Side → ℕ
taken_count fresh side = if fresh then side.acknowledged else side.acknowledged + 1

pub record Awaits (id count : ℕ) (message : List ℕ) (receiver : ReceiverValue) : Type 0 where
  pub awaited : receiver.awaited ≡ Some id
  pub pieces : receiver.pieces ≡ taken_pieces (length message) count message

-- the other end, Y, that receives
pub record Hears (Y : End) (past : List PastFrame) (fresh : Bool) (side : Side)
    (receiver : ReceiverValue) : Type 0 where
  pub last_is : receiver.last ≡ first (acked Y past)
  pub receives : taken_count fresh side < piece_count (length side.message)
      → Awaits side.id (taken_count fresh side) side.message receiver

-- x waits on a first piece that wasn't taken, and y on the last piece of the message before it
pub record Answering (fresh : Bool) (x y : Side) : Type 0 where
  pub is_fresh : fresh ≡ true
  pub begins : x.acknowledged ≡ 0
  pub ends : y.acknowledged + 1 ≡ piece_count (length y.message)

-- what an end sends, and whether its newest fragment wasn't taken yet
pub record Speaker : Type 0 where
  pub side : Side
  pub fresh : Bool

abbrev pub speaker : Side → Bool → Speaker
speaker side fresh = record { side = side; fresh = fresh }

-- an end on the line: what it sends, up to which frame its own were taken off the line, and what it
-- receives
pub record Station : Type 0 where
  pub speaker : Speaker
  pub taken : ℕ
  pub receiver : ReceiverValue

abbrev pub station : Speaker → ℕ → ReceiverValue → Station
station sends taken receiver =
    record { speaker = sends; taken = taken; receiver = receiver }

-- both ends, and the frames so far
pub record Core (X Y : End) (past : List PastFrame) (x y : Station) : Type 0 where
  pub there : Counts X Y past x.speaker.fresh x.taken
  pub back : Counts Y X past y.speaker.fresh y.taken
  pub x_speaks : Speaks X past x.speaker.fresh x.speaker.side
  pub y_speaks : Speaks Y past y.speaker.fresh y.speaker.side
  pub y_hears : Hears Y past x.speaker.fresh x.speaker.side y.receiver
  pub x_hears : Hears X past y.speaker.fresh y.speaker.side x.receiver
  pub one : x.speaker.fresh ≡ true → y.speaker.fresh ≡ false
  pub both : Waiting x.speaker.side → Waiting y.speaker.side
      → Answering x.speaker.fresh x.speaker.side y.speaker.side
      ⊎ Answering y.speaker.fresh y.speaker.side x.speaker.side

-- the frames that are pushed
abbrev pub data_frame : End → Key → List ℕ → FrameCourse → PastFrame
data_frame X key bytes course = record {
  from = X;
  is_data = true;
  key = key;
  bytes = bytes;
  course = course;
}

abbrev pub ack_frame : End → Key → FrameCourse → PastFrame
ack_frame X key course = record {
  from = X;
  is_data = false;
  key = key;
  bytes = [];
  course = course;
}
