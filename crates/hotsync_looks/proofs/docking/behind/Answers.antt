use Rattle.run_words.proofs.WordLaws.{value_after-is}
use Rattle.hotsync_looks.proofs.docking.behind.Goals as goal

pub returns : goal.returns
returns c = value_after-is c.args.part.now c.args.word.now c.strip_prefix.result c.strip_prefix.ensures.cases
