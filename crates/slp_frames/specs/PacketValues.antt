-- The packets of the program as packets.
use Rattle.std.specs.Prelude.{Option, Some, None, List, [], ◌∷◌}
use Rattle.slp_frames.specs.PacketText.{PacketValue}
use Rattle.slp_frames.specs.declared.packet.Packet.{Packet}
use Rattle.slp_frames.specs.declared.packet.PacketLent.{PacketLent}

-- a packet that holds its body
abbrev pub packet_value : Packet → PacketValue
packet_value packet = record {
  dest = packet.dest;
  source = packet.source;
  kind = packet.kind;
  id = packet.id;
  body = packet.body.items;
}

-- a packet whose body lies elsewhere
abbrev pub lent_value : PacketLent → PacketValue
lent_value packet = record {
  dest = packet.dest;
  source = packet.source;
  kind = packet.kind;
  id = packet.id;
  body = packet.body.now;
}

-- the packet that was handed out, if one was
abbrev pub handed_out : Option PacketLent → List PacketValue
handed_out None = []
handed_out (Some packet) = lent_value packet ∷ []
