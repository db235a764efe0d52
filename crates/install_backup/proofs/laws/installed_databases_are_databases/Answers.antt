-- Installed databases.
use Rattle.install_backup.proofs.InstalledLaws.{installed-again, installed-whole, with_new-without}
use Rattle.install_backup.proofs.laws.installed_databases_are_databases.Goals as goal

pub returns : goal.returns
returns c = record { bounded = installed-whole; again = installed-again; placed = with_new-without }
