use Rattle.std.proofs.Common.{◌≤◌, length, map}
use Rattle.line_script.specs.Lines.{lines_of}
use Rattle.line_script.specs.Rules.{rule_value}
use Rattle.line_script.proofs.ScriptLaws.{Goes}
use Rattle.line_script.proofs.reader.read_script.Given as goal

abbrev pub invariant-loop-line : goal.invariant-loop-line
invariant-loop-line l = Goes l.bytes (map rule_value l.rules.items) l.before l.rest × (length (lines_of l.bytes) ≤ 100000)

abbrev pub decreases-loop-line : goal.decreases-loop-line
decreases-loop-line l = length l.rest
