use Rattle.foreign_laws.proofs.SessionTwins.{session_twin}
use Rattle.foreign_laws.proofs.session_laws.a_session_has_a_twin.Goals as goal

pub returns : goal.returns
returns g c = λ wishes old new desk after proper ended. session_twin _ wishes old new desk after proper ended
