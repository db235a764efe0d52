use Rattle.front_laws.proofs.StopLaws.{runs-again}
use Rattle.front_laws.proofs.laws.a_stopped_session_is_run_again.Goals as goal

pub returns : goal.returns
returns c = λ meeting next given later name is new ids. runs-again meeting next is.writes given later new name is.fits.sound is.fits.fits is.again
    is.active is.fresh is.got ids.got ids.unknown
