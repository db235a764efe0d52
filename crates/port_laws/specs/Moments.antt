-- What may happen to two ends over a cable: a packet is lost, an end takes one, says a piece once
-- more, begins a message or awaits one.
use Rattle.std.specs.Prelude.{◌≡◌, ◌⊎◌, ◌≤◌, ◌↔◌, ℕ, true, List, ◌++◌, length, Some, None}
use Rattle.padp_end.specs.Arrivals.{Ack, Data, arrival_of}
use Rattle.padp_end.specs.Ends.{end_begins, end_takes, end_waits, is_acked}
use Rattle.padp_end.specs.declared.heard.Heard.{Heard}
use Rattle.padp_end.specs.declared.heard.Heard.TheVariants as heard
use Rattle.padp_link.specs.FragmentText.{FragmentValue}
use Rattle.padp_link.specs.Pieces.{key_of}
use Rattle.padp_link.specs.Receivers.{whole_of}
use Rattle.padp_link.specs.Senders.{waiting, waiting_key}
use Rattle.padp_link.specs.declared.piece.Key.{Key}
use Rattle.port_laws.specs.Cables.{Cable, Side, Parcel, IsAhead, IsOver, parcels}

-- what y heard, where it took a packet of x
pub record HeardRightly (x old y : Side) (hears : Heard) : Type 0 where
  -- a message is whole: it is that of x, whose newest piece wasn't taken before
  pub ahead : hears ≡ heard.Message → IsAhead x old
  pub over : hears ≡ heard.Message → IsOver x y
  pub whole : hears ≡ heard.Message → whole_of y.end.receiver.pieces ≡ Some x.end.message
  -- nothing of y waits then, nor where its own message was delivered, which x took whole
  pub answered : hears ≡ heard.Message → waiting y.end.sender ≡ None
  pub quiet : hears ≡ heard.Delivered → waiting y.end.sender ≡ None
  pub delivered : hears ≡ heard.Delivered → IsOver y x

-- y stays as it is but for the counts: its message is the same one, and what was taken whole of
-- either side was so before or is so now
pub record StaysOn (x old y : Side) : Type 0 where
  pub message : y.end.message ≡ old.end.message
  pub id : y.end.sender.id ≡ old.end.sender.id
  pub over : IsOver old x → IsOver y x
  pub other : IsOver x old → IsOver x y

-- y takes the oldest packet of x
pub record TakesOne (x y : Side) (first : Parcel) (there back : List Parcel) : Type 0 where
  pub next : Side
  pub end_is : next.end ≡ (end_takes y.end first.packet).end
  pub cable : Cable x next there
      (back ++ parcels next.count (end_takes y.end first.packet).said)
  pub heard : HeardRightly x y next (end_takes y.end first.packet).heard
  pub stays : StaysOn x y next

-- y says the piece that waits once more
pub record SaysAgain (x y : Side) (there back : List Parcel) : Type 0 where
  pub next : Side
  pub end_is : next.end ≡ (end_waits y.end).1
  pub cable : Cable x next there (back ++ parcels next.count (end_waits y.end).0)
  pub stays : StaysOn x y next

-- y begins a message, where both messages before it were taken whole and nothing of it waits
pub record BeginsOne (x y : Side) (id : ℕ) (message : List ℕ) (there back : List Parcel)
    : Type 0 where
  pub next : Side
  pub end_is : next.end ≡ (end_begins y.end id message).1
  pub cable : Cable x next there (back ++ parcels next.count (end_begins y.end id message).0)
  pub other : IsOver x next
  pub ahead : IsAhead next x

-- where both messages before it were taken whole and nothing of y waits, y may begin a message,
-- under another transaction than the one before
abbrev pub MayBeginOne : Side → Side → ℕ → List ℕ → List Parcel → List Parcel → Type 0
MayBeginOne x y id message there back =
    IsOver x y → IsOver y x → waiting y.end.sender ≡ None → length message ≤ 65535
    → (y.count.begun ≡ 0) ⊎ ¬ (y.end.sender.id ≡ id) → BeginsOne x y id message there back

-- data in a packet is the last piece that y took exactly where y took as many as its sender had
-- begun when it said it
abbrev pub KnowsRepeat : Side → Parcel → ℕ → FragmentValue → Type 0
KnowsRepeat y first id fragment =
    arrival_of first.packet ≡ Data id fragment
    → (y.end.receiver.last ≡ Some (key_of id fragment)) ↔ (first.at.begun ≡ y.count.taken)

-- an acknowledgement that counts for the piece of y that waits was said by an end that had taken
-- that piece
abbrev pub KnowsAck : Side → Parcel → Key → Type 0
KnowsAck y first key =
    arrival_of first.packet ≡ Ack key → is_acked (waiting_key y.end.sender) key ≡ true
    → first.at.taken ≡ y.count.begun
