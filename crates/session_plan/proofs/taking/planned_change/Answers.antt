-- The change of a database of records is one that a desktop takes.
use Rattle.session_plan.proofs.TakeLaws.{change_fit}
use Rattle.session_plan.proofs.taking.planned_change.Goals as goal

pub returns-clause-fit : goal.returns-clause-fit
returns-clause-fit c =
    change_fit c.args.rows.now c.in_ok-rows.rows c.in_ok-base.base c.in_ok-archive.archive c.in_ok-kept.kept.items c.in_ok-known.known.items
    c.in_ok-entries.entries.items c.requires.records c.in_ok-rows.ensures c.in_ok-base.ensures c.in_ok-archive.ensures
