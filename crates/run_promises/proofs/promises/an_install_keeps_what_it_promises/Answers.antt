use Rattle.run_promises.proofs.InstallPromises.{install_ended, install_refused, install_stopped, install_through}
use Rattle.run_promises.proofs.promises.an_install_keeps_what_it_promises.Goals as goal

pub returns : goal.returns
returns c = record { refused = install_refused; through = install_through; ended = install_ended; stopped = install_stopped }
