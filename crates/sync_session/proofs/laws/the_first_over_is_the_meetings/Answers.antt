use Rattle.sync_session.proofs.MostLaws.{limit_is_first_over}
use Rattle.sync_session.proofs.PlannedLaws.{over_is_first_over}
use Rattle.sync_session.proofs.laws.the_first_over_is_the_meetings.Goals as goal

pub returns : goal.returns
returns c = record {
  over = λ meeting planned proper are. over_is_first_over meeting proper planned are;
  told = λ meeting planned proper are. limit_is_first_over meeting proper planned are;
}
