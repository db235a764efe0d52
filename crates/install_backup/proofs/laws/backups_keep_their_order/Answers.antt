-- A handheld that is backed up.
use Rattle.install_backup.proofs.BackupOrder.{backup-order}
use Rattle.install_backup.proofs.laws.backups_keep_their_order.Goals as goal

pub returns : goal.returns
returns c = λ device count rests. backup-order device count rests
