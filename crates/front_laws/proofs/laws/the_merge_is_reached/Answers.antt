use Rattle.front_laws.proofs.MergeActs.{merged}
use Rattle.front_laws.proofs.laws.the_merge_is_reached.Goals as goal

pub returns : goal.returns
returns c = λ meeting given fits. merged meeting given fits.sound fits.fits
