use Rattle.run_promises.proofs.EmulationPromises.{handheld_says_all}
use Rattle.run_promises.proofs.promises.a_handheld_says_what_is_to_be_said.Goals as goal

pub returns : goal.returns
returns c = handheld_says_all
