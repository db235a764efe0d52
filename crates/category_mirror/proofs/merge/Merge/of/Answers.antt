-- Each number goes to one of the 16.
use Rattle.category_mirror.proofs.BlockLaws.{numbers_small}
use Rattle.category_mirror.proofs.merge.Merge.of.Goals as goal

pub invariant_of-result : goal.invariant_of-result
invariant_of-result c = rw c.merge.ensures.places (numbers_small _ _ c.requires.handheld c.requires.desktop)
