use Rattle.padp_link.proofs.WaitingLaws.{waiting-fragment}
use Rattle.padp_link.proofs.laws.waiting_piece_is_a_fragment.Goals as goal

pub returns : goal.returns
returns c = record {
  inside = λ sender message piece size waits. (waiting-fragment sender message piece size waits).0;
  fragment = λ sender message piece size waits. (waiting-fragment sender message piece size waits).1;
}
