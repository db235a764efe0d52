use Rattle.desktop_session.proofs.TellLaws.{one_handle}
use Rattle.desktop_session.proofs.laws.first_handle_is_one.Goals as goal

pub returns : goal.returns
returns c = one_handle
