-- A database that is installed.
use Rattle.install_backup.proofs.WholeLaws.{install_goes, installed_rests}
use Rattle.install_backup.proofs.laws.installs_arrive.Goals as goal

pub returns : goal.returns
returns c = record {
  order = λ device database can. (install_goes device can.rests database can.bounded can.room can.writable).order;
  device = λ device database can. (install_goes device can.rests database can.bounded can.room can.writable).after;
  rests = λ device database rests bounded room. installed_rests device rests database bounded room;
}
