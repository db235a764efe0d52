use Rattle.trace_check.proofs.RunLaws.{proper-fates}
use Rattle.trace_check.proofs.TalkLaws.{proper-talk, proper-trace}
use Rattle.trace_check.proofs.laws.a_trace_speaks_for_itself.Goals as goal

pub returns-clause-fates : goal.returns-clause-fates
returns-clause-fates c = proper-fates

pub returns-clause-messages : goal.returns-clause-messages
returns-clause-messages c = proper-talk

pub returns-clause-trace : goal.returns-clause-trace
returns-clause-trace c = proper-trace
