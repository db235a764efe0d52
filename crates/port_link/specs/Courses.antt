-- How a desktop's end, its reader and its port go on over events.
use Rattle.std.specs.Prelude.{◌≡◌, ℕ, List, [], ◌∷◌, ◌++◌, take, Option, Some, None, Result, Ok, Err}
use Rattle.std.specs.Option.{option_map}
use Rattle.std.specs.List.{flat_map}
use Rattle.hs_folders.specs.Appends.{AppendsPrefix}
use Rattle.port_laws.specs.Palms.{Palm}
use Rattle.port_line.specs.declared.port_fault.PortFault.{PortFault}
use Rattle.port_line.specs.declared.port_fault.PortFault.TheVariants as fault
use Rattle.slp_frames.specs.Histories.{Continues}
use Rattle.slp_frames.specs.PacketScan.{scan}
use Rattle.port_link.specs.declared.desk.Desk.{Desk}
use Rattle.port_link.specs.declared.turn.Turn.{Turn}
use Rattle.port_link.specs.Behind.{PalmsGo}
use Rattle.port_link.specs.Desks.{Event, Awaits, Begins, Came, Read, desk_after, reacts}
use Rattle.port_link.specs.Logs.{EntryValue, logged, spoken}

-- what the port gave and took and what stands behind it, where it tells it, the bytes that the
-- reader holds, the desktop's end, and all that was said and heard
pub record Scene : Type 0 where
  pub given : Option (List (List ℕ))
  pub taken : Option (List ℕ)
  pub palm : Option Palm
  pub held : List ℕ
  pub desk : Desk
  pub log : List EntryValue

abbrev pub scene : Option (List (List ℕ)) → Option (List ℕ) → Option Palm → List ℕ → Desk
    → List EntryValue → Scene
scene given taken palm held desk log = record {
  given = given;
  taken = taken;
  palm = palm;
  held = held;
  desk = desk;
  log = log;
}

-- ---- what comes

-- The packet that the reader holds first comes. The port is read only where it holds none, and then
-- the bytes are held too.
abbrev pub HoldsNext : List ℕ → Event → List ℕ → Type 0
HoldsNext held (Awaits id) now = Continues held [] now
HoldsNext held (Begins id message) now = Continues held [] now
HoldsNext held (Came packet) now = Continues held (packet ∷ []) now
HoldsNext held (Read bytes) now = (scan held ≡ []) × Continues (held ++ bytes) [] now

-- a reader that holds these bytes holds those behind the events; bytes that can't be in a packet
-- may be dropped
abbrev pub Holds : List ℕ → List Event → List ℕ → Type 0
Holds held [] now = Continues held [] now
Holds held (event ∷ events) now =
    (between : List ℕ) × HoldsNext held event between × Holds between events now

-- what the port gave at an event
abbrev pub reads_at : Event → List (List ℕ)
reads_at (Awaits id) = []
reads_at (Begins id message) = []
reads_at (Came packet) = []
reads_at (Read bytes) = bytes ∷ []

abbrev pub reads_of : List Event → List (List ℕ)
reads_of events = flat_map reads_at events

-- ---- what is said

-- the entries were kept; where memory was wanting the first of them
abbrev pub Keeps : Option PortFault → List EntryValue → List EntryValue → List EntryValue → Type 0
Keeps None old new entries = new ≡ old ++ entries
Keeps (Some fault.Failed) old new entries = new ≡ old ++ entries
Keeps (Some fault.NoMemory) old new entries = (count : ℕ) × (new ≡ old ++ take count entries)

-- the port took the bytes; where it failed or memory was wanting a first part of them
abbrev pub Takes : Option PortFault → Option (List ℕ) → Option (List ℕ) → List ℕ → Type 0
Takes None old new text = new ≡ option_map (λ taken. taken ++ text) old
Takes (Some fault) old new text = AppendsPrefix old new text

-- these entries were kept, and what is said in them was written
pub record Tells (fault : Option PortFault) (taken taken' : Option (List ℕ))
    (log log' entries : List EntryValue) : Type 0 where
  pub keeps : Keeps fault log log' entries
  pub takes : Takes fault taken taken' (spoken entries)

-- ---- both

-- these events happened, up to a fault if there was one
pub record Course (events : List Event) (fault : Option PortFault) (old new : Scene) : Type 0 where
  pub holds : Holds old.held events new.held
  pub given : new.given ≡ option_map (λ given. given ++ reads_of events) old.given
  pub desk : new.desk ≡ desk_after old.desk events
  pub tells : Tells fault old.taken new.taken old.log new.log (logged old.desk events)
  pub palms : PalmsGo fault old.desk events old.palm new.palm

-- ---- one event

-- it comes from outside
abbrev pub IsHeard : Event → Type 0
IsHeard (Awaits id) = ⊥
IsHeard (Begins id message) = ⊥
IsHeard (Came packet) = Unit {0}
IsHeard (Read bytes) = Unit {0}

-- one such event, or none
abbrev pub IsHeardOnce : List Event → Type 0
IsHeardOnce [] = Unit {0}
IsHeardOnce (event ∷ events) = IsHeard event × (events ≡ [])

-- one event came, and this follows; or there was a fault at it, or at the read that was to bring
-- one
abbrev pub Happens : Result Turn PortFault → Scene → Scene → Type 0
Happens (Ok turn) old new =
    (event : Event) × IsHeard event × (turn ≡ (reacts old.desk event).turn)
    × Course (event ∷ []) None old new
Happens (Err fault) old new =
    (events : List Event) × IsHeardOnce events × Course events (Some fault) old new
