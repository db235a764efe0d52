use Rattle.std.proofs.Common.{map}
use Rattle.handheld_store.proofs.IdLaws.{AreTaken}
use Rattle.database_merge.proofs.free_id.first_free.Given as goal

abbrev pub invariant-loop-number : goal.invariant-loop-number
invariant-loop-number l = AreTaken (map (λ item. item.id) l.records) l.start l.number
