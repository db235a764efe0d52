use Rattle.std.proofs.Common.{rules}
use Rattle.handheld_store.proofs.IdLaws.{not_all_taken}
use Rattle.database_merge.proofs.free_id.free_id.Goals as goal

pub unreachable-requires : goal.unreachable-requires
unreachable-requires c = not_all_taken c.args.records.now c.drawn_from-start.result
    (search rules) (search rules) (record { each = c.in_default.ensures.taken }) (record { each = c.in-None.ensures.taken })
