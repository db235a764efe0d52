-- A database that is backed up.
use Rattle.install_backup.proofs.BackedUpLaws.{copies-are}
use Rattle.install_backup.proofs.laws.copies_are_the_devices.Goals as goal

pub returns : goal.returns
returns c = λ device database rests held idle. copies-are device rests database held idle
