use Rattle.desktop_session.proofs.ChangeRows.{made_does, made_tells}
use Rattle.desktop_session.proofs.order.databases_are_made.Goals as goal

pub returns : goal.returns
returns c = record { told = made_tells; device = made_does }
