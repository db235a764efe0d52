use Rattle.std.specs.Prelude.{map}
use Rattle.trace_text.specs.Proper.{ComeInOrder}
use Rattle.trace_text.specs.TraceLines.{frame_value}
use Rattle.trace_check.specs.Closing.{ComeBehind}
use Rattle.trace_check.proofs.WalkLaws.{IsLeft}
use Rattle.trace_check.proofs.ordering.come_in_order.Given as goal

abbrev pub invariant-loop-frame : goal.invariant-loop-frame
invariant-loop-frame l =
    IsLeft frame_value l.frames l.frame-index (ComeInOrder (map frame_value l.frames)) (ComeBehind l.closed)
