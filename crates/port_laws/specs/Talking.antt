-- A desktop's end over a handheld and a cable: what holds of both while no request was said yet,
-- and from a request on until its reply was taken.
use Rattle.std.specs.Prelude.{◌≡◌, ◌⊎◌, ◌≤◌, ℕ, false, List, [], ◌∷◌, ◌++◌, length, Some, None}
use Rattle.port_laws.specs.Cables.{Cable, Count, IsOver, Side, Parcel, packets_in, packets_of}
use Rattle.port_laws.specs.Moments.{HeardRightly, StaysOn}
use Rattle.device_stream.specs.Hands.{Hand}
use Rattle.device_stream.specs.Laws.{DidNothing}
use Rattle.dlp_commands.specs.DeviceSteps.{DeviceStep}
use Rattle.padp_end.specs.Ends.{EndValue, end_begins, end_takes}
use Rattle.padp_end.specs.Outgoings.{OutgoingFragment}
use Rattle.padp_end.specs.declared.heard.Heard.{Heard}
use Rattle.padp_link.specs.Neighbours.{session_id}
use Rattle.padp_link.specs.Receivers.{whole_of}
use Rattle.padp_link.specs.Senders.{waiting}
use Rattle.port_laws.specs.Palms.{Palm}
use Rattle.slp_frames.specs.PacketScan.{scan}
use Rattle.slp_frames.specs.PacketText.{PacketValue}

-- how far a session is: the wake is awaited, or was taken; the init was begun; a request was begun;
-- or all that was said was taken. The handheld was this when that began.
pub data Stage : Type 0 where
  Waking : Hand → Stage
  Woken : Hand → Stage
  Greeting : Hand → Stage
  Asking : Hand → List ℕ → Stage
  Resting : Hand → Stage

abbrev pub side : EndValue → Count → Side
side end count = record { end = end; count = count }

-- the desktop began nothing, and the handheld was never greeted
pub record IsWaking (was : Hand) (desk palm : Side) (hand : Hand) : Type 0 where
  pub did : DidNothing was hand
  pub greeted_is : hand.greeted ≡ false
  pub begun : desk.count.begun ≡ 0
  pub over : IsOver desk palm

-- and it took the wake
pub record IsWoken (was : Hand) (desk palm : Side) (hand : Hand) : Type 0 where
  pub waking : IsWaking was desk palm hand
  pub other : IsOver palm desk

-- the desktop took the wake and began its init, which greets the handheld and is no request
pub record IsGreeting (was : Hand) (desk palm : Side) (hand : Hand) : Type 0 where
  pub did : DidNothing was hand
  pub greets : (hand.greeted ≡ false) ⊎ IsOver desk palm
  pub over : IsOver palm desk

-- the handheld hasn't performed the request
pub record IsBefore (was : Hand) (request : List ℕ) (desk palm : Side) (hand : Hand)
    : Type 0 where
  pub did : DidNothing was hand
  pub over : IsOver palm desk
  pub message_is : desk.end.message ≡ request

-- it performed it once, by one step of its device, and says the reply
pub record IsBehind (was : Hand) (request : List ℕ) (desk palm : Side) (hand : Hand)
    : Type 0 where
  pub step : DeviceStep was.device request palm.end.message hand.device
  pub performed_is : hand.performed ≡ was.performed ++ request ∷ []
  pub replies_are : hand.replies ≡ was.replies ++ palm.end.message ∷ []
  pub over : IsOver desk palm

-- between two requests: both messages were taken whole
pub record IsResting (was : Hand) (desk palm : Side) (hand : Hand) : Type 0 where
  pub did : DidNothing was hand
  pub over : IsOver desk palm
  pub other : IsOver palm desk

abbrev pub IsAt : Stage → Side → Side → Hand → Type 0
IsAt (Waking was) desk palm hand = IsWaking was desk palm hand
IsAt (Woken was) desk palm hand = IsWoken was desk palm hand
IsAt (Greeting was) desk palm hand = IsGreeting was desk palm hand
IsAt (Asking was request) desk palm hand =
    IsBefore was request desk palm hand ⊎ IsBehind was request desk palm hand
IsAt (Resting was) desk palm hand = IsResting was desk palm hand

-- The packets that a reader holds, with those that the handheld said and that didn't come yet, are
-- under way to the desktop. Each reply goes under the transaction of its number.
pub record Stands (stage : Stage) (end : EndValue) (held : List ℕ) (palm : Palm) : Type 0 where
  pub desk : Count
  pub hand : Count
  pub there : List Parcel
  pub back : List Parcel
  pub came : List PacketValue
  pub cable : Cable (side end desk) (side palm.hand.end hand) there back
  pub there_is : packets_in there ≡ palm.toward
  pub back_is : packets_in back ≡ came ++ palm.back
  pub held_is : (more : List ℕ) → scan (held ++ more) ≡ came ++ scan (palm.part ++ more)
  pub part_open : scan palm.part ≡ []
  pub id_is : palm.hand.end.sender.id ≡ session_id (length palm.hand.performed)
  pub at : IsAt stage (side end desk) (side palm.hand.end hand) palm.hand

-- the same with what the desktop's end says on its way
abbrev pub with_said : Palm → List OutgoingFragment → Palm
with_said palm said = record {
  hand = palm.hand;
  toward = palm.toward ++ packets_of said;
  back = palm.back;
  part = palm.part;
}

-- the desktop's end took a packet: all stands at the same stage, and what it heard is right
pub record DeskTook (stage : Stage) (end : EndValue) (now : List ℕ) (palm : Palm)
    (packet : PacketValue) : Type 0 where
  pub before : Count
  pub hand : Count
  pub stands : Stands stage (end_takes end packet).end now
      (with_said palm (end_takes end packet).said)
  pub hand_is : stands.hand ≡ hand
  pub was : IsAt stage (side end before) (side palm.hand.end hand) palm.hand
  pub right : HeardRightly (side palm.hand.end hand) (side end before)
      (side (end_takes end packet).end stands.desk) (end_takes end packet).heard
  pub stays : StaysOn (side palm.hand.end hand) (side end before)
      (side (end_takes end packet).end stands.desk)

-- and it was the reply to the request: the handheld performed exactly this request, once, by one
-- step of its device; its reply is the message that was taken whole, and all that was said was
-- taken
pub record IsReplyOf (was : Hand) (request : List ℕ) (end : EndValue) (now : List ℕ)
    (palm : Palm) (packet : PacketValue) : Type 0 where
  pub reply : List ℕ
  pub whole : whole_of (end_takes end packet).end.receiver.pieces ≡ Some reply
  pub step : DeviceStep was.device request reply palm.hand.device
  pub performed_is : palm.hand.performed ≡ was.performed ++ request ∷ []
  pub replies_are : palm.hand.replies ≡ was.replies ++ reply ∷ []
  pub quiet : waiting (end_takes end packet).end.sender ≡ None
  pub stands : Stands (Resting palm.hand) (end_takes end packet).end now
      (with_said palm (end_takes end packet).said)

-- ---- what may happen

-- at each packet that the desktop's end takes at this stage and hears this of, that follows
abbrev pub EachHearing : Stage → Heard → (EndValue → List ℕ → Palm → PacketValue → Type 0) → Type 0
EachHearing stage heard Fact =
    (end : EndValue) (now : List ℕ) (palm : Palm) (packet : PacketValue)
    → DeskTook stage end now palm packet → (end_takes end packet).heard ≡ heard
    → Fact end now palm packet

-- it stands at this stage behind the packet
abbrev pub StandsBehind : Stage → EndValue → List ℕ → Palm → PacketValue → Type 0
StandsBehind stage end now palm packet =
    Stands stage (end_takes end packet).end now (with_said palm (end_takes end packet).said)

-- it stands at this stage behind the beginning of a message
abbrev pub StandsBegun : Stage → EndValue → List ℕ → Palm → ℕ → List ℕ → Type 0
StandsBegun stage end held palm id message =
    Stands stage (end_begins end id message).1 held (with_said palm (end_begins end id message).0)

-- where nothing of the desktop's end waits, a request may begin, under another transaction than the
-- message before it
abbrev pub MayAsk : Hand → EndValue → List ℕ → Palm → ℕ → List ℕ → Type 0
MayAsk was end held palm id request =
    waiting end.sender ≡ None → ¬ (end.sender.id ≡ id) → length request ≤ 65535
    → StandsBegun (Asking was request) end held palm id request
