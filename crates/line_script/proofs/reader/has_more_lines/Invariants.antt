use Rattle.std.proofs.Common.{◌≡◌, ◌+◌, ◌≤◌, length}
use Rattle.line_script.specs.Lines.{lines_of}
use Rattle.line_script.proofs.reader.has_more_lines.Given as goal

abbrev pub invariant-loop-behind : goal.invariant-loop-behind
invariant-loop-behind l = (l.count + length (lines_of l.rest) ≡ length (lines_of l.bytes)) × (l.count ≤ 100000)

abbrev pub decreases-loop-behind : goal.decreases-loop-behind
decreases-loop-behind l = length l.rest
