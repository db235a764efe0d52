-- Before the first frame nothing has ended the run.
use Rattle.std.proofs.Common.{map}
use Rattle.trace_text.specs.TraceLines.{frame_value}
use Rattle.trace_check.proofs.EndingLaws.{end-first}
use Rattle.trace_check.proofs.ending.end_at_last.Goals as goal

pub loop-frame-init : goal.loop-frame-init
loop-frame-init c = record {
  left = record { all = end-first (map frame_value c.args.frames.now) c.requires };
  traced = c.requires;
}
