use Rattle.run_promises.proofs.RestorePromises.{restore_ended, restore_folder, restore_refused, restore_stopped}
use Rattle.run_promises.proofs.promises.a_restore_keeps_what_it_promises.Goals as goal

pub returns : goal.returns
returns c = record { refused = restore_refused; folder = restore_folder; ended = restore_ended; stopped = restore_stopped }
