use Rattle.sync_session.proofs.LossLaws.{loss_is_first_loss}
use Rattle.sync_session.proofs.laws.the_first_loss_is_the_meetings.Goals as goal

pub returns : goal.returns
returns c = loss_is_first_loss
