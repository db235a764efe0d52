-- Databases that are installed one after another.
use Rattle.install_backup.proofs.InstallOrder.{install-order}
use Rattle.install_backup.proofs.laws.installs_keep_their_order.Goals as goal

pub returns : goal.returns
returns c = λ device mark databases count rests bounded full. install-order mark device databases count rests bounded full
