use Rattle.front_laws.proofs.FrontLaws.{after-none, commit-ids, commit-told, first-told, session-ids, session-told}
use Rattle.front_laws.proofs.laws.given_ids_are_told.Goals as goal

pub returns : goal.returns
returns c = record {
  counted = λ meeting given sound count. (commit-ids meeting given sound count, session-ids meeting given sound count);
  commit = λ meeting given fits. commit-told meeting given fits.sound fits.fits;
  whole = λ meeting given fits. session-told meeting given fits.sound fits.fits;
  beginning = λ meeting given n fits. first-told meeting given n fits.sound fits.fits;
  behind = after-none;
}
