use Rattle.std.proofs.Common.{List, ℕ, length, map}
use Rattle.std.specs.Prelude.{string_bytes}
use Rattle.slp_frames.specs.PacketScan.{scan}
use Rattle.trace_text.specs.PacketLists.{IsShown}
use Rattle.trace_text.proofs.packets.push_held.Given as goal

abbrev pub invariant-loop-packet : goal.invariant-loop-packet
invariant-loop-packet l = (taken : List ℕ)
    → IsShown taken (map string_bytes l.initial.lines.items) l.initial.reader.held → IsShown taken (map string_bytes l.lines.items) l.reader.held

-- the packets that are held
abbrev pub decreases-loop-packet : goal.decreases-loop-packet
decreases-loop-packet l = length (scan l.reader.held)
