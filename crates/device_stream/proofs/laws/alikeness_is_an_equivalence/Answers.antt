use Rattle.device_stream.proofs.AlikeLaws.{Alike-back, Alike-itself, Alike-through}
use Rattle.device_stream.proofs.laws.alikeness_is_an_equivalence.Goals as goal

pub returns-clause-itself : goal.returns-clause-itself
returns-clause-itself c = Alike-itself

pub returns-clause-back : goal.returns-clause-back
returns-clause-back c = Alike-back

pub returns-clause-through : goal.returns-clause-through
returns-clause-through c = Alike-through
