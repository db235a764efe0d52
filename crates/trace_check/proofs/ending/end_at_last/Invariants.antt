use Rattle.std.proofs.Common.{◌+◌, drop, map}
use Rattle.trace_text.specs.Proper.{AreNumbered}
use Rattle.trace_text.specs.TraceLines.{frame_value}
use Rattle.trace_check.specs.Messages.{fates_in}
use Rattle.trace_check.specs.Readings.{AreTraced}
use Rattle.trace_check.proofs.EndingLaws.{EndBehind}
use Rattle.trace_check.proofs.WalkLaws.{IsLeft}
use Rattle.trace_check.proofs.ending.end_at_last.Given as goal

abbrev pub invariant-loop-frame : goal.invariant-loop-frame
invariant-loop-frame l =
    let all = map frame_value l.frames in record {
      left : IsLeft frame_value l.frames l.frame-index (AreNumbered 1 (fates_in all) all) (EndBehind l.ended);
      traced : AreTraced (l.frame-index + 1) (map frame_value (drop l.frame-index l.frames));
    }
