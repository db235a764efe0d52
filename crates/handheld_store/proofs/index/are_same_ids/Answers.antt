use Rattle.std.proofs.Common.{rules}
use Rattle.handheld_store.proofs.IndexLaws.{same_more}
use Rattle.handheld_store.proofs.index.are_same_ids.Goals as goal

pub loop-place-preserved : goal.loop-place-preserved
loop-place-preserved c = search (rules, same_more)
