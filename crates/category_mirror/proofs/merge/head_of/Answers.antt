-- A block that is no longer is its own head.
use Rattle.std.proofs.Common.{arith, sym}
use Rattle.std.proofs.lemmas.List.{take_all}
use Rattle.category_mirror.proofs.merge.head_of.Goals as goal

pub returns-then-block-lt276 : goal.returns-then-block-lt276
returns-then-block-lt276 c = sym (take_all 276 c.args.block.now (omega arith))
