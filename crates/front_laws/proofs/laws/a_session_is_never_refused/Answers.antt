use Rattle.front_laws.proofs.OrderRuns.{read-answered, whole-answered}
use Rattle.front_laws.proofs.laws.a_session_is_never_refused.Goals as goal

pub returns : goal.returns
returns c = record {
  read = λ meeting count sound replies reached. read-answered meeting count replies reached sound;
  whole = λ meeting count fits replies reached. whole-answered meeting count replies reached fits.sound fits.fits;
}
