-- What came of a message that was awaited, and of the bytes that a port gave.
use Rattle.std.specs.Prelude.{◌≡◌, ⊤, ℕ, List, [], ◌∷◌, ◌++◌, None, nat_eq, if◌then◌else◌}
use Rattle.std.specs.List.{flat_map}
use Rattle.padp_end.specs.Arrivals.{Arrival, Drop, Tickle, Stop, Ack, Data, arrival_of}
use Rattle.padp_link.specs.FragmentText.{FragmentValue}
use Rattle.padp_link.specs.Receivers.{bytes_of}
use Rattle.slp_frames.specs.PacketScan.{scan}
use Rattle.slp_frames.specs.PacketText.{PacketValue}
use Rattle.port_link.specs.Courses.{Course, IsHeard, Scene, reads_of}
use Rattle.port_link.specs.Desks.{Event, Awaits, Begins, Came, Read}

-- ---- packets

-- the packet that came with an event, if one did
abbrev pub packets_at : Event → List PacketValue
packets_at (Awaits id) = []
packets_at (Begins id message) = []
packets_at (Came packet) = packet ∷ []
packets_at (Read bytes) = []

-- the packets that came, in order
abbrev pub packets_of : List Event → List PacketValue
packets_of events = flat_map packets_at events

-- the bytes that the port gave, in order
abbrev pub bytes_read : List Event → List ℕ
bytes_read events = flat_map (λ (bytes : List ℕ). bytes) (reads_of events)

-- the packets that came, and then those that are held, are the packets of the bytes that were held
-- and those that were read
abbrev pub IsScanned : List Event → Scene → Scene → Type 0
IsScanned events old new =
    scan (old.held ++ bytes_read events) ≡ packets_of events ++ scan new.held

-- ---- parts of a message

-- a data fragment under this transaction
abbrev pub part_of : ℕ → Arrival → List FragmentValue
part_of id Drop = []
part_of id Tickle = []
part_of id Stop = []
part_of id (Ack key) = []
part_of id (Data other fragment) = if nat_eq id other then fragment ∷ [] else []

-- the data fragments of these packets under this transaction, in order
abbrev pub parts_of : ℕ → List PacketValue → List FragmentValue
parts_of id packets = flat_map (λ (packet : PacketValue). part_of id (arrival_of packet)) packets

-- the elements are among those of the other list, in order
abbrev pub AreAmong : {X : Type 0} → List X → List X → Type 0
AreAmong [] all = ⊤
AreAmong {X} (x ∷ xs) all =
    (before : List X) × (after : List X) × (all ≡ before ++ x ∷ after) × AreAmong xs after

-- all come from outside
abbrev pub AreHeard : List Event → Type 0
AreHeard [] = ⊤
AreHeard (event ∷ events) = IsHeard event × AreHeard events

-- A request was said and events came; the reply is the bytes of data fragments that came with them,
-- under the request's transaction, in order.
pub record IsAnswered (id : ℕ) (request reply : List ℕ) (old new : Scene) : Type 0 where
  pub events : List Event
  pub heard : AreHeard events
  pub course : Course (Awaits id ∷ Begins id request ∷ events) None old new
  pub parts : List FragmentValue
  pub among : AreAmong parts (parts_of id (packets_of events))
  pub reply_is : reply ≡ bytes_of parts
