-- What is known of an end behind some frames: which of its fragments reached the other end, and
-- where its messages begin.
use Rattle.std.specs.Prelude.{◌≡◌, ℕ, ◌+◌, ◌-◌, ◌<◌, ◌≤◌, Bool, false, ◌&&◌, List, [], ◌∷◌, ◌++◌, length, nat_eq, nat_lt}
use Rattle.std.specs.Prelude.{slice_index_or, slice_set, Option, Some, None, if◌then◌else◌}
use Rattle.std.specs.Option.{option_or}
use Rattle.padp_link.specs.declared.piece.Key.{Key}
use Rattle.padp_link.specs.Pieces.{piece_count}
use Rattle.trace_text.specs.declared.frame.End.{End}
use Rattle.trace_text.specs.Faults.{late_of, newest}
use Rattle.trace_text.specs.Past.{PastFrame, first, said, same_key}
use Rattle.trace_text.specs.Talks.{Talk, messages_of, pieces_before}
use Rattle.trace_check.specs.Arrivals.{first_late, is_free, bears, acks}
use Rattle.trace_check.specs.declared.side.Side.{Side}

-- What is known of an end: how many fragments stand before each message that it began and before
-- the next, the
-- arrival of each fragment that it said, its newest key, the arrival of the acknowledgement of
-- that, and its newest
-- late frame.
pub record SideValue : Type 0 where
  pub starts : List ℕ
  pub arrivals : List (Option ℕ)
  pub key : Option Key
  pub ack : Option ℕ
  pub late : ℕ

-- the same, wherever its lists lie
abbrev pub side_value : Side → SideValue
side_value side = record {
  starts = side.starts.items;
  arrivals = side.arrivals.items;
  key = side.key;
  ack = side.ack;
  late = side.late;
}

-- where so many fragments were said, this is how many stand before each message that was begun and
-- before the next
pub record AreStarts (messages : List (List ℕ)) (said : ℕ) (starts : List ℕ) : Type 0 where
  pub begun : ℕ
  pub there : begun ≤ length messages
  pub counted : length starts ≡ begun + 1
  pub places : (k : ℕ) → k ≤ begun → slice_index_or starts k 0 ≡ pieces_before messages k
  pub inside : said ≤ pieces_before messages begun
  pub behind : 0 < begun → pieces_before messages (begun - 1) < said

-- that is what is known of X behind this past
pub record IsSide (X Y : End) (talk : Talk) (came : ℕ → Bool) (past : List PastFrame)
    (side : SideValue) : Type 0 where
  pub starts_are : AreStarts (messages_of X talk) (length (said X past)) side.starts
  pub said_all : length side.arrivals ≡ length (said X past)
  pub arrivals_are : (j : ℕ) → j < length (said X past)
      → slice_index_or side.arrivals j None ≡ first_late (bears X (j + 1)) X came past
  pub key_is : side.key ≡ first (said X past)
  pub ack_is : side.ack ≡ first_late (acks X Y (length (said X past))) Y came past
  pub late_is : side.late ≡ newest (late_of X) past

-- an end that said nothing
abbrev pub no_side : SideValue
no_side = record { starts = 0 ∷ []; arrivals = []; key = None; ack = None; late = 0 }

-- how many fragments the messages have that were begun
abbrev pub last_start : SideValue → ℕ
last_start side = slice_index_or side.starts (length side.starts - 1) 0

-- its next fragment begins a message
abbrev pub is_start : SideValue → Bool
is_start side = nat_eq (length side.arrivals) (last_start side)

-- the end says a new fragment, whose first frame has this arrival
abbrev pub with_fragment : Key → Option ℕ → SideValue → SideValue
with_fragment key arrival side = record {
  starts =
      if is_start side then side.starts ++ (last_start side + piece_count key.size) ∷ []
      else side.starts;
  arrivals = side.arrivals ++ arrival ∷ [];
  key = Some key;
  ack = None;
  late = side.late;
}

-- the arrival of the fragment that stands behind so many
abbrev pub arrival_at : ℕ → SideValue → Option ℕ
arrival_at place side = slice_index_or side.arrivals place None

-- it says its newest fragment again
abbrev pub with_repeat : Option ℕ → SideValue → SideValue
with_repeat arrival side =
    let last = length side.arrivals - 1 in
    let newest_one = option_or (arrival_at last side) arrival in
    record side { arrivals = slice_set side.arrivals last newest_one }

-- the key is the newest
abbrev pub is_key : Key → Option Key → Bool
is_key key None = false
is_key key (Some newest) = same_key key newest

-- the other end acknowledges a fragment with this key
abbrev pub with_ack : Key → Option ℕ → SideValue → SideValue
with_ack key arrival side =
    record side { ack = if is_key key side.key then option_or side.ack arrival else side.ack }

-- the first fragment of its message of this number reached the other end, by the newest repeat
abbrev pub is_start_free : ℕ → ℕ → SideValue → Bool
is_start_free repeat number side =
    nat_lt number (length side.starts)
    && is_free repeat (arrival_at (slice_index_or side.starts number 0) side)

-- the last one did
abbrev pub is_end_free : ℕ → ℕ → SideValue → Bool
is_end_free repeat number side =
    nat_lt (number + 1) (length side.starts)
    && is_free repeat (arrival_at (slice_index_or side.starts (number + 1) 0 - 1) side)
