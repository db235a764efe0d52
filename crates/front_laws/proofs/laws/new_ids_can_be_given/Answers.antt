use Rattle.front_laws.proofs.NewIdsLaws.{new-given}
use Rattle.front_laws.proofs.laws.new_ids_can_be_given.Goals as goal

pub returns : goal.returns
returns c = λ meeting fits.
    let given = new-given meeting fits.sound fits.fits in
    (given.0, λ name is. record { got = (given.1 name is).0; unknown = (given.1 name is).1 })
