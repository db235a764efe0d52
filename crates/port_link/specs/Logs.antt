-- What was said and heard over a cable.
use Rattle.std.specs.Prelude.{ℕ, List, [], ◌∷◌, ◌++◌, map, Vec}
use Rattle.std.specs.Global.{Global}
use Rattle.std.specs.List.{flat_map}
use Rattle.padp_end.specs.Outgoings.{OutgoingFragment, said_text}
use Rattle.slp_frames.specs.PacketText.{PacketValue}
use Rattle.port_link.specs.declared.desk.Desk.{Desk}
use Rattle.port_link.specs.declared.entry.Entry.{Entry}
use Rattle.port_link.specs.declared.entry.Entry.TheVariants as held
use Rattle.port_link.specs.declared.entry.HeardPacket.{HeardPacket}
use Rattle.port_link.specs.Desks.{Event, Awaits, Begins, Came, Read, reacts}

-- the bytes of a packet that was said, a packet that came, or a tick that brought nothing
pub data EntryValue : Type 0 where
  Said : List ℕ → EntryValue
  Heard : PacketValue → EntryValue
  Silent : EntryValue

-- a packet that was kept
abbrev pub heard_value : HeardPacket → PacketValue
heard_value packet = record {
  dest = packet.dest;
  source = packet.source;
  kind = packet.kind;
  id = packet.id;
  body = packet.body.items;
}

-- an entry of the program as this
abbrev pub entry_value : Entry → EntryValue
entry_value (held.Said text) = Said text.items
entry_value (held.Heard packet) = Heard (heard_value packet)
entry_value held.Silent = Silent

abbrev pub log_entries : Vec Entry Global → List EntryValue
log_entries entries = map entry_value entries.items

-- what is kept of bytes that are said, if there are any
abbrev pub speech : List ℕ → List EntryValue
speech [] = []
speech (byte ∷ bytes) = Said (byte ∷ bytes) ∷ []

abbrev pub said_entries : List OutgoingFragment → List EntryValue
said_entries said = speech (said_text said)

-- what is kept of what came
abbrev pub heard_entries : Event → List EntryValue
heard_entries (Awaits id) = []
heard_entries (Begins id message) = []
heard_entries (Came packet) = Heard packet ∷ []
heard_entries (Read []) = Silent ∷ []
heard_entries (Read (byte ∷ bytes)) = []

-- what is kept of an event: what came, and then what is said to it
abbrev pub entries_at : Desk → Event → List EntryValue
entries_at desk event = heard_entries event ++ said_entries (reacts desk event).said

-- what is kept of events, one after the other
abbrev pub logged : Desk → List Event → List EntryValue
logged desk [] = []
logged desk (event ∷ events) = entries_at desk event ++ logged (reacts desk event).desk events

-- the bytes that are said at an entry
abbrev pub spoken_at : EntryValue → List ℕ
spoken_at (Said text) = text
spoken_at (Heard packet) = []
spoken_at Silent = []

-- the bytes that are said, one packet after the other
abbrev pub spoken : List EntryValue → List ℕ
spoken entries = flat_map spoken_at entries
