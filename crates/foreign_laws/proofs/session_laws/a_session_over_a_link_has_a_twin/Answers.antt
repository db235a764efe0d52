use Rattle.foreign_laws.proofs.SessionTwins.{link_twin}
use Rattle.foreign_laws.proofs.session_laws.a_session_over_a_link_has_a_twin.Goals as goal

pub returns : goal.returns
returns g c = λ hand wishes old desk left reports to proper none asks ok. link_twin _ _ hand wishes old desk left reports to proper none asks ok
