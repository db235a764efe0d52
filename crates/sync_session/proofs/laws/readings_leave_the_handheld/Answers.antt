use Rattle.sync_session.proofs.SessionJoins.{writes_leave}
use Rattle.sync_session.proofs.laws.readings_leave_the_handheld.Goals as goal

pub returns : goal.returns
returns c = writes_leave
