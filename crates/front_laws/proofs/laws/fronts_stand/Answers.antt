use Rattle.front_laws.proofs.FrontLaws.{front-among, front-behind}
use Rattle.front_laws.proofs.laws.fronts_stand.Goals as goal

pub returns : goal.returns
returns c = record {
  news = λ meeting writes given device is. front-among meeting writes given device is.fits.sound is.fits.fits is.front;
  commit = λ meeting writes given device is. front-behind meeting writes given device is.fits.sound is.fits.fits is.front;
}
