use Rattle.run_promises.proofs.BackupPromises.{backup_left, backup_refused}
use Rattle.run_promises.proofs.promises.a_backup_keeps_what_it_promises.Goals as goal

pub returns : goal.returns
returns c = record { refused = backup_refused; left = backup_left }
