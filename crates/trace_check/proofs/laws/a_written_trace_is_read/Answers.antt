use Rattle.trace_check.proofs.TraceLaws.{reads-written}
use Rattle.trace_check.proofs.laws.a_written_trace_is_read.Goals as goal

pub returns : goal.returns
returns c = reads-written
