use Rattle.run_promises.proofs.FilingAgain.{come_together, desktop_behind, desktop_untouched}
use Rattle.run_promises.proofs.promises.categories_that_are_together_stay.Goals as goal

pub returns : goal.returns
returns c = record { untouched = desktop_untouched; committed = desktop_behind; again = come_together }
