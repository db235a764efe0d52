use Rattle.padp_end.proofs.PartLaws.{end_of-same}
use Rattle.padp_end.proofs.laws.parts_of_an_end_are_one.Goals as goal

pub returns : goal.returns
returns c = end_of-same
