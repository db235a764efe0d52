use Rattle.trace_check.proofs.TraceLaws.{one_reading}
use Rattle.trace_check.proofs.laws.a_text_is_one_trace.Goals as goal

pub returns : goal.returns
returns c = one_reading
