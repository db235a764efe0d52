-- What was said and heard over a cable, as text.
use Rattle.std.specs.Prelude.{ℕ, ◌+◌, List, [], ◌∷◌, ◌++◌, codes, take}
use Rattle.std.specs.Fmt.{decimal}
use Rattle.hex.specs.Hex.{encode_lower}
use Rattle.slp_frames.specs.PacketText.{PacketValue, packet_text}
use Rattle.port_link.specs.Logs.{EntryValue, Said, Heard, Silent}

-- the bytes of a packet that came, whose body has 1,028 bytes at most
abbrev pub heard_text : PacketValue → List ℕ
heard_text packet = packet_text (record {
  dest = packet.dest;
  source = packet.source;
  kind = packet.kind;
  id = packet.id;
  body = take 1028 packet.body;
})

-- a number, the letter of an end, and the bytes that it said
abbrev pub bytes_line : ℕ → List ℕ → List ℕ → List ℕ
bytes_line number end bytes =
    decimal number ++ codes " " ++ end ++ codes " " ++ encode_lower bytes ++ codes "\n"

-- by the letters of the end that kept it and of the other one: `NUMBER LETTER HEX` or
-- `NUMBER silent`, and a line feed
abbrev pub entry_line : List ℕ → List ℕ → ℕ → EntryValue → List ℕ
entry_line own other number (Said text) = bytes_line number own text
entry_line own other number (Heard packet) = bytes_line number other (heard_text packet)
entry_line own other number Silent = decimal number ++ codes " silent\n"

-- a line for each entry, numbered from here on
abbrev pub lines_from : List ℕ → List ℕ → ℕ → List EntryValue → List ℕ
lines_from own other number [] = []
lines_from own other number (entry ∷ entries) =
    entry_line own other number entry ++ lines_from own other (number + 1) entries

-- the text of all that was said and heard
abbrev pub log_text : List ℕ → List ℕ → List EntryValue → List ℕ
log_text own other entries = lines_from own other 1 entries

-- where a desktop kept it, and where a handheld did
abbrev pub cable_text : List EntryValue → List ℕ
cable_text entries = log_text (codes "D") (codes "H") entries

abbrev pub dock_text : List EntryValue → List ℕ
dock_text entries = log_text (codes "H") (codes "D") entries
