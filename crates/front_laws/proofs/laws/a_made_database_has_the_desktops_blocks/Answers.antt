use Rattle.front_laws.proofs.FilledLaws.{kept-whole, made-behind, made-whole}
use Rattle.front_laws.proofs.FrontLaws.{front-behind}
use Rattle.front_laws.proofs.laws.a_made_database_has_the_desktops_blocks.Goals as goal

pub returns : goal.returns
returns c = record {
  whole = made-whole;
  commit = λ meeting writes given name device is behind made.
      made-behind meeting given name device (front-behind meeting writes given device is.fits.sound is.fits.fits is.front behind) made;
  kept = kept-whole;
}
