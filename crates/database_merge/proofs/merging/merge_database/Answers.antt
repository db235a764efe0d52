use Rattle.std.proofs.Common.{IfErr, subst}
use Rattle.database_merge.specs.Faults.{Refuses}
use Rattle.database_merge.proofs.merging.merge_database.Goals as goal

pub returns-clause-refused : goal.returns-clause-refused
returns-clause-refused c =
    let both = c.args.both in
    subst (λ h. IfErr c.merge_opened.result (Refuses (record { handheld = h; rows = both.rows; base = both.base; archive = both.archive }) c.args.wishes.now))
    c.in_ok-handheld.ensures.opened c.merge_opened.ensures.refused
