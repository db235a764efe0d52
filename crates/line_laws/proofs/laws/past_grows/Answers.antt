use Rattle.line_laws.proofs.PastLaws.{length-at}
use Rattle.line_laws.proofs.laws.past_grows.Goals as goal

pub returns : goal.returns
returns c = length-at
