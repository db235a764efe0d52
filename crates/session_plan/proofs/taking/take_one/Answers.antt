-- The rows of a database that isn't skipped take its plan.
use Rattle.std.proofs.Common.{◌∙◌, ap, sym}
use Rattle.std.specs.Option.{option_copied}
use Rattle.desk_store.specs.Views.{shelves_in}
use Rattle.session_plan.proofs.FitLaws.{takes-rows}
use Rattle.session_plan.proofs.taking.take_one.Goals as goal

pub planned_change-requires : goal.planned_change-requires
planned_change-requires g c =
    let takes = takes-rows c.args.date (shelves_in c.args.desk.now) c.args.one.now c.args.given.now c.in-Some.rows.now c.requires
    (sym c.is_some.ensures ∙ c.if-is_some.false) (sym c.rows.ensures ∙ ap option_copied c.in-Some.is) in
    record { records = takes.records; counted = takes.counted }
