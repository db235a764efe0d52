-- A trace that keeps each of the seven rules is proper.
use Rattle.std.proofs.Common.{List}
use Rattle.trace_text.specs.TraceLines.{FrameValue}
use Rattle.trace_check.specs.Judging.{IsProperTrace, Keeps}
use Rattle.trace_check.specs.declared.rule.Rule.{Rule}
use Rattle.trace_check.specs.declared.rule.Rule.TheVariants.{A, B, C, D, E, F, G}
use Rattle.trace_check.proofs.RuleLaws.{seven-rules}

pub proper-by : (frames : List FrameValue) → Keeps A frames → Keeps B frames → Keeps C frames → Keeps D frames → Keeps E frames → Keeps F frames
    → Keeps G frames → IsProperTrace frames
proper-by frames a b c d e f g = (seven-rules frames).1 each
  where
    each : (rule : Rule) → Keeps rule frames
    each A = a
    each B = b
    each C = c
    each D = d
    each E = e
    each F = f
    each G = g
