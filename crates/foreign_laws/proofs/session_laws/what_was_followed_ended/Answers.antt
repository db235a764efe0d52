use Rattle.foreign_laws.proofs.LinkLaws.{followed_ends}
use Rattle.foreign_laws.proofs.session_laws.what_was_followed_ended.Goals as goal

pub returns : goal.returns
returns g c = λ asked old new x follows before after none takes. followed_ends _ asked old new x follows before after none takes
