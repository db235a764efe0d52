-- Where an install stopped.
use Rattle.install_backup.proofs.StayLaws as laws
use Rattle.install_backup.proofs.laws.others_stay.Goals as goal

pub returns : goal.returns
returns c = record {
  user = λ device after mark databases closed left.
      laws.user_marked mark device after databases left.writes left.given closed left.bounded left.front;
  others = λ device after mark databases name closed left none.
      laws.others_stay mark device after databases left.writes left.given name closed left.bounded left.front none;
}
