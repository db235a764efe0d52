use Rattle.run_words.proofs.OnlyLaws.{action_for-restricted}
use Rattle.run_words.proofs.only.only_these_are_touched.Goals as goal

pub returns : goal.returns
returns c = action_for-restricted
