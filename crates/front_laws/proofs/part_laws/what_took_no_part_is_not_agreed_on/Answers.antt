use Rattle.front_laws.proofs.PartLaws.{read-anew}
use Rattle.front_laws.proofs.part_laws.what_took_no_part_is_not_agreed_on.Goals as goal

pub returns : goal.returns
returns c = read-anew
