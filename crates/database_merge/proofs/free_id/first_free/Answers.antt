use Rattle.std.proofs.Common.{rules}
use Rattle.handheld_store.proofs.IdLaws.{among_placed, taken_more}
use Rattle.database_merge.proofs.free_id.first_free.Goals as goal

pub loop-number-preserved : goal.loop-number-preserved
loop-number-preserved c = search (rules, taken_more, among_placed)
