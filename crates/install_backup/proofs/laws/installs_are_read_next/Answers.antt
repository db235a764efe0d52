-- The session behind an install.
use Rattle.install_backup.proofs.StayLaws.{read_next, user_marked}
use Rattle.install_backup.proofs.laws.installs_are_read_next.Goals as goal

pub returns : goal.returns
returns c = λ device after mark databases desktop closed left says some.
    read_next mark device after desktop says some
    (user_marked mark device after databases left.writes left.given closed left.bounded left.front)
