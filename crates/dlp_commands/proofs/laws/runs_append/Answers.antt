use Rattle.dlp_commands.proofs.StepLaws.{ran_joined, ran_cut}
use Rattle.dlp_commands.proofs.laws.runs_append.Goals as goal

pub returns-clause-joined : goal.returns-clause-joined
returns-clause-joined c = ran_joined

pub returns-clause-cut : goal.returns-clause-cut
returns-clause-cut c = ran_cut
