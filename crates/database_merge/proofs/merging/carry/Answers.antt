use Rattle.std.proofs.Common.{◌≡◌, false, subst}
use Rattle.pdb_values.specs.Heads.{holds_resources}
use Rattle.session_plan.specs.Skips.{head_of, passes}
use Rattle.database_merge.proofs.SkipLaws.{new_records, rows_records}
use Rattle.database_merge.proofs.merging.carry.Goals as goal

pub finish-requires-in-Some-None-clause-rows : goal.finish-requires-in-Some-None-clause-rows
finish-requires-in-Some-None-clause-rows c =
    let old = subst (λ h. passes holds_resources (head_of h) ≡ false) c.in-Some-None.is-0 c.requires.handheld in
    rw (c.new-rows.ensures, c.rows_head.ensures, c.head.ensures.head) (rows_records c.args.date c.in-Some-None.handheld.head old)

pub finish-requires-in-None-Some-clause-handheld : goal.finish-requires-in-None-Some-clause-handheld
finish-requires-in-None-Some-clause-handheld c =
    let old = subst (λ h. passes holds_resources (head_of h) ≡ false) c.in-None-Some.is-1 c.requires.rows in
    rw c.in_ok-handheld-in-None-Some.ensures (new_records c.in-None-Some.rows.head old)
