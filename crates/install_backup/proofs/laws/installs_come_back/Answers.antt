-- An unmarked database that is installed and backed up.
use Rattle.install_backup.proofs.UnmarkedLaws.{back-unmarked, comes_back}
use Rattle.install_backup.proofs.laws.installs_come_back.Goals as goal

pub returns : goal.returns
returns c = record {
  database = back-unmarked;
  handheld = λ device database can unmarked. comes_back device database can.rests can.bounded unmarked can.writable can.room;
}
