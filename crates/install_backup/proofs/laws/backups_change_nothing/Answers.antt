-- A handheld that is backed up.
use Rattle.install_backup.proofs.ReadWhole.{leaves_all}
use Rattle.install_backup.proofs.laws.backups_change_nothing.Goals as goal

pub returns : goal.returns
returns c = λ device rests. leaves_all device rests
