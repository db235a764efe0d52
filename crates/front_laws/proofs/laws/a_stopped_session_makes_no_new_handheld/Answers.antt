use Rattle.front_laws.proofs.LossLaws.{runs-costless}
use Rattle.front_laws.proofs.laws.a_stopped_session_makes_no_new_handheld.Goals as goal

pub returns : goal.returns
returns c = λ meeting next writes given later fits. runs-costless meeting next writes given later fits.sound fits.fits
