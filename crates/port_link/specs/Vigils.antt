-- A handheld's end at a port: what it says to packets and to silence, and what it is then.
use Rattle.std.specs.Prelude.{◌≡◌, ◌<◌, ℕ, ◌-◌, false, List, [], ◌∷◌, ◌++◌, None}
use Rattle.device_stream.specs.Hands.{Hand, waited_by, woken}
use Rattle.device_stream.specs.Talks.{Takes}
use Rattle.padp_end.specs.Ends.{is_spent}
use Rattle.padp_end.specs.Outgoings.{OutgoingFragment}
use Rattle.palm_device.specs.Devices.{Device}
use Rattle.port_link.specs.Desks.{Event, Awaits, Begins, Came, Read}
use Rattle.port_link.specs.Logs.{EntryValue, heard_entries, said_entries}

-- a hand, and how many silent ticks more it bears
pub record Vigil : Type 0 where
  pub hand : Hand
  pub patience : ℕ

abbrev pub vigil : Hand → ℕ → Vigil
vigil hand patience = record { hand = hand; patience = patience }

-- it has sent its wake, and bears thirty silent ticks
abbrev pub waking : Device → Vigil
waking device = vigil (woken device) 30

-- behind a tick of silence: the piece that waits was said once more, and it bears one tick less
abbrev pub behind_tick : Vigil → Vigil
behind_tick old = vigil (waited_by old.hand).1 (old.patience - 1)

-- What comes over the port: it says this to it, and is this then. A packet is taken as a talk takes
-- it, and gives all patience back; to bytes that complete no packet it says nothing.
abbrev pub Step : Vigil → Event → List OutgoingFragment → Vigil → Type 0
Step old (Awaits id) said new = ⊥
Step old (Begins id message) said new = ⊥
Step old (Came packet) said new = Takes old.hand packet said new.hand × (new.patience ≡ 30)
Step old (Read []) said new = (said ≡ (waited_by old.hand).0) × (new ≡ behind_tick old)
Step old (Read (byte ∷ bytes)) said new = (said ≡ []) × (new ≡ old)

-- These came in order. What is kept of them is what came, each with what was said to it.
abbrev pub Steps : Vigil → List Event → List EntryValue → Vigil → Type 0
Steps old [] kept new = (kept ≡ []) × (new ≡ old)
Steps old (event ∷ events) kept new =
    (said : List OutgoingFragment) × (later : List EntryValue) × (between : Vigil)
    × Step old event said between
    × (kept ≡ (heard_entries event ++ said_entries said) ++ later)
    × Steps between events later new

-- ---- that it goes on

-- Behind an event it goes on: behind a packet its talk isn't over, and behind a tick the piece that
-- waits hadn't had its ten tries, and it bears more of them.
abbrev pub GoesOnBehind : Vigil → Event → Vigil → Type 0
GoesOnBehind old (Awaits id) new = Unit {0}
GoesOnBehind old (Begins id message) new = Unit {0}
GoesOnBehind old (Came packet) new = new.hand.over ≡ None
GoesOnBehind old (Read []) new = (is_spent old.hand.end ≡ false) × (0 < new.patience)
GoesOnBehind old (Read (byte ∷ bytes)) new = Unit {0}

-- these came in order, and it went on behind each
abbrev pub StepsOn : Vigil → List Event → List EntryValue → Vigil → Type 0
StepsOn old [] kept new = (kept ≡ []) × (new ≡ old)
StepsOn old (event ∷ events) kept new =
    (said : List OutgoingFragment) × (later : List EntryValue) × (between : Vigil)
    × Step old event said between
    × (kept ≡ (heard_entries event ++ said_entries said) ++ later)
    × StepsOn between events later new
    × GoesOnBehind old event between

-- some follow
abbrev pub IsMore : List Event → Type 0
IsMore [] = ⊥
IsMore (event ∷ events) = Unit {0}

-- these came in order, and it went on behind each but the last
abbrev pub StepsTo : Vigil → List Event → List EntryValue → Vigil → Type 0
StepsTo old [] kept new = (kept ≡ []) × (new ≡ old)
StepsTo old (event ∷ events) kept new =
    (said : List OutgoingFragment) × (later : List EntryValue) × (between : Vigil)
    × Step old event said between
    × (kept ≡ (heard_entries event ++ said_entries said) ++ later)
    × StepsTo between events later new
    × (IsMore events → GoesOnBehind old event between)
