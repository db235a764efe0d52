use Rattle.sync_session.proofs.PlannedLaws.{reports_are}
use Rattle.sync_session.proofs.laws.what_is_told_is_the_meetings.Goals as goal

pub returns : goal.returns
returns c = λ meeting planned proper are none. reports_are meeting proper planned are none
