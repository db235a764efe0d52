-- Databases that are installed one after another.
use Rattle.install_backup.proofs.TurnLaws.{fronts_stand}
use Rattle.install_backup.proofs.laws.installs_come_in_turn.Goals as goal

pub returns : goal.returns
returns c = λ device after mark databases rests room left.
    fronts_stand mark device after databases left.writes left.given rests left.bounded room left.front
