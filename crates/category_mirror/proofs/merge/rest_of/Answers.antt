-- What stands behind the head of a block.
use Rattle.std.proofs.Common.{arith, drop, sym}
use Rattle.std.proofs.lemmas.List.{drop_all, length-drop, take_all}
use Rattle.category_mirror.proofs.merge.rest_of.Goals as goal

pub returns-then-block-lt276 : goal.returns-then-block-lt276
returns-then-block-lt276 c = sym (drop_all 276 c.args.block.now (omega arith))

pub returns-else-block-lt276 : goal.returns-else-block-lt276
returns-else-block-lt276 c = take_all _ (drop 276 c.args.block.now) (omega (arith, length-drop 276 c.args.block.now))
