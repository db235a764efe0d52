use Rattle.std.proofs.Common.{◌≡◌, List, ℕ, ◌++◌, length, map}
use Rattle.std.specs.Prelude.{string_bytes}
use Rattle.slp_frames.specs.Streams.{IsDrained}
use Rattle.trace_text.specs.PacketLists.{IsShown}
use Rattle.trace_text.proofs.packets.packet_lines.Given as goal

-- what was taken of the bytes
abbrev pub invariant-loop-rest : goal.invariant-loop-rest
invariant-loop-rest l =
    IsDrained l.reader.held × ((part : List ℕ) × (l.bytes ≡ part ++ l.rest) × IsShown part (map string_bytes l.lines.items) l.reader.held)

abbrev pub decreases-loop-rest : goal.decreases-loop-rest
decreases-loop-rest l = length l.rest
