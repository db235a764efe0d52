-- A database is taken away.
use Rattle.install_backup.proofs.GoneLaws.{deleted}
use Rattle.install_backup.proofs.laws.databases_go.Goals as goal

pub returns : goal.returns
returns c = deleted
