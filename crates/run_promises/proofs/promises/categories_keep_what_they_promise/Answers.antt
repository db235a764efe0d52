use Rattle.run_promises.proofs.FilingPromises.{filing_ended, filing_refused, filing_stopped}
use Rattle.run_promises.proofs.promises.categories_keep_what_they_promise.Goals as goal

pub returns : goal.returns
returns c = record { refused = filing_refused; ended = filing_ended; stopped = filing_stopped }
