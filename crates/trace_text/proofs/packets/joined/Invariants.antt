use Rattle.std.proofs.Common.{◌≡◌, take, map}
use Rattle.std.specs.Prelude.{string_bytes}
use Rattle.trace_text.specs.PacketLists.{lines_text}
use Rattle.trace_text.proofs.packets.joined.Given as goal

abbrev pub invariant-loop-line : goal.invariant-loop-line
invariant-loop-line l = string_bytes l.text ≡ lines_text (map string_bytes (take l.line-index l.lines))
