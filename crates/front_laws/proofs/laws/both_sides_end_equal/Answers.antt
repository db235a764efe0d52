use Rattle.front_laws.proofs.EqualLaws.{holds-equal}
use Rattle.front_laws.proofs.laws.both_sides_end_equal.Goals as goal

pub returns : goal.returns
returns c = holds-equal
