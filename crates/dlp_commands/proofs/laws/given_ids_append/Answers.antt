use Rattle.dlp_commands.proofs.StepLaws.{given-answered, given-append}
use Rattle.dlp_commands.proofs.laws.given_ids_append.Goals as goal

pub returns-clause-joined : goal.returns-clause-joined
returns-clause-joined c = given-append

pub returns-clause-answered : goal.returns-clause-answered
returns-clause-answered c = given-answered
