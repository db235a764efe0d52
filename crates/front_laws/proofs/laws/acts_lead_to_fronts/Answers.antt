use Rattle.front_laws.proofs.FrontLaws.{acts-front}
use Rattle.front_laws.proofs.laws.acts_lead_to_fronts.Goals as goal

pub returns : goal.returns
returns c = λ meeting given n fits. acts-front meeting given n fits.sound fits.fits
