use Rattle.trace_check.proofs.RuleLaws.{one-verdict}
use Rattle.trace_check.proofs.laws.a_trace_has_one_verdict.Goals as goal

pub returns : goal.returns
returns c = one-verdict
