-- The frames of the line so far, the newest first, and what each end said and acknowledged in them.
use Rattle.std.specs.Prelude.{◌≡◌, ℕ, ◌+◌, ◌-◌, Bool, true, false, not, ◌&&◌, List, [], ◌∷◌, length, drop, nat_eq, if◌then◌else◌, Option, Some, None}
use Rattle.padp_link.specs.declared.piece.Key.{Key}
use Rattle.trace_text.specs.declared.frame.End.{End}
use Rattle.trace_text.specs.declared.frame.End.TheVariants.{Handheld, Desktop}

-- what becomes of a frame: it comes to the other end, it doesn't (or comes damaged), or it comes
-- late
pub data FrameCourse : Type 0 where
  Came : FrameCourse
  Gone : FrameCourse
  Late : FrameCourse

-- a frame: who sent it, whether it bears a data fragment or an acknowledgement, its key, the part
-- of a message, and what becomes of it
pub record PastFrame : Type 0 where
  pub from : End
  pub is_data : Bool
  pub key : Key
  pub bytes : List ℕ
  pub course : FrameCourse

abbrev pub is_end : End → End → Bool
is_end Handheld Handheld = true
is_end Handheld Desktop = false
is_end Desktop Handheld = false
is_end Desktop Desktop = true

abbrev pub same_key : Key → Key → Bool
same_key x y = nat_eq x.id y.id && nat_eq x.flags y.flags && nat_eq x.size y.size

abbrev pub first : List Key → Option Key
first [] = None
first (key ∷ older) = Some key

-- the key goes before the others unless it is the newest of them
abbrev pub add : Option Key → List Key → List Key
add None keys = keys
add (Some key) [] = key ∷ []
add (Some key) (newest ∷ older) =
    if same_key key newest then newest ∷ older else key ∷ newest ∷ older

-- the keys that are picked of the frames, the newest first, each once where it stands several times
-- in a row
abbrev pub keys : (PastFrame → Option Key) → List PastFrame → List Key
keys pick [] = []
keys pick (frame ∷ past) = add (pick frame) (keys pick past)

abbrev pub is_data_of : End → PastFrame → Bool
is_data_of X frame = is_end X frame.from && frame.is_data

abbrev pub data_of : End → PastFrame → Option Key
data_of X frame = if is_end X frame.from && frame.is_data then Some frame.key else None

abbrev pub ack_of : End → PastFrame → Option Key
ack_of X frame = if is_end X frame.from && not frame.is_data then Some frame.key else None

-- the keys of the fragments that an end sent, the newest first
abbrev pub said : End → List PastFrame → List Key
said X past = keys (data_of X) past

-- the keys of the fragments that it acknowledged
abbrev pub acked : End → List PastFrame → List Key
acked X past = keys (ack_of X) past

-- the past when so many frames had been sent
abbrev pub at : ℕ → List PastFrame → List PastFrame
at n past = drop (length past - n) past

-- the frame is a data frame of this end, an acknowledgement by it
abbrev pub IsDataOf : End → PastFrame → Type 0
IsDataOf X frame = (is_end X frame.from && frame.is_data) ≡ true

abbrev pub IsAckOf : End → PastFrame → Type 0
IsAckOf X frame = (is_end X frame.from && not frame.is_data) ≡ true

-- a data frame with the key of the same end's data frame before it
abbrev pub is_newest_key : Key → List Key → Bool
is_newest_key key [] = false
is_newest_key key (newest ∷ older) = same_key key newest

abbrev pub is_repeat : End → PastFrame → List PastFrame → Bool
is_repeat X frame past = is_data_of X frame && is_newest_key frame.key (said X past)

-- how many data frames of X with its newest key stand in a row
abbrev pub run : End → List PastFrame → ℕ
run X [] = 0
run X (frame ∷ past) =
    if is_repeat X frame past then run X past + 1
    else (if is_data_of X frame then 1 else run X past)
