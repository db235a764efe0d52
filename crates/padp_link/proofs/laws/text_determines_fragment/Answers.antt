use Rattle.padp_link.proofs.TextLaws.{one_fragment}
use Rattle.padp_link.proofs.laws.text_determines_fragment.Goals as goal

pub returns : goal.returns
returns c = one_fragment
