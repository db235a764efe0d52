use Rattle.front_laws.proofs.LetGoLaws.{desktop-loss, handheld-loss}
use Rattle.front_laws.proofs.life_laws.a_session_loses_nothing.Goals as goal

pub returns : goal.returns
returns c = record { desktop = desktop-loss; handheld = handheld-loss }
