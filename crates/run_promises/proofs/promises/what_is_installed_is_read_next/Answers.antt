use Rattle.run_promises.proofs.InstallPromises.{install_read, install_read_or_same}
use Rattle.run_promises.proofs.RestorePromises.{restore_read, restore_read_or_same}
use Rattle.run_promises.proofs.promises.what_is_installed_is_read_next.Goals as goal

pub returns : goal.returns
returns c = record {
  installed = install_read;
  restored = restore_read;
  install_stopped = install_read_or_same;
  restore_stopped = restore_read_or_same;
}
