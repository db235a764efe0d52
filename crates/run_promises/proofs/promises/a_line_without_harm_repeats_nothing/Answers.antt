use Rattle.run_promises.proofs.CleanLaws.{goes_through_whole}
use Rattle.run_promises.proofs.promises.a_line_without_harm_repeats_nothing.Goals as goal

pub returns : goal.returns
returns c call without is = goes_through_whole without is.ran
