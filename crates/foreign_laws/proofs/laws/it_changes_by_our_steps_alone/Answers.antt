use Rattle.foreign_laws.proofs.LinkLaws.{changes_by}
use Rattle.foreign_laws.proofs.laws.it_changes_by_our_steps_alone.Goals as goal

pub returns : goal.returns
returns c = λ old new tries takes. changes_by old tries new takes
