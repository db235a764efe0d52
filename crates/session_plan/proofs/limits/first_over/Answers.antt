-- One planned database after another.
use Rattle.std.proofs.Common.{◌∙◌, ap, sym, arith, Some}
use Rattle.desk_store.specs.Desks.{all_rows}
use Rattle.desk_store.specs.Views.{shelves_in}
use Rattle.session_plan.proofs.LimitLaws.{over_end, over_first, over_next, over_now, over_past}
use Rattle.session_plan.proofs.limits.first_over.Goals as goal
use Rattle.session_plan.proofs.limits.first_over.Goals.{then-is_active+in_ok-passes_limit+else-branch, else-is_active}

pub loop-one-init : goal.loop-one-init
loop-one-init g c =
    over_first (shelves_in c.args.desk.now) c.args.planned.now c.args.listed (all_rows c.args.desk.now.slots) c.desktop_count-desktops.result
    c.desktop_count-desktops.ensures

pub returns-then-branch : goal.returns-then-branch
returns-then-branch g c =
    let active = sym c.is_active.ensures ∙ c.if-is_active.true in
    let over = sym c.in_ok-passes_limit.ensures ∙ c.if-branch.true in
    ap Some c.copy.ensures ∙ sym (over_now (shelves_in c.args.desk.now) c.args.planned.now c.loop-one.one-index c.one-item.result c.loop-one.handhelds
    c.loop-one.desktops c.loop-one-test.true c.one-item.is active over) ∙ c.loop-one.invariant

pub loop-one-preserved : goal.loop-one-preserved
loop-one-preserved g c =
    let one = c.one-item.result in
    let k = c.loop-one.one-index in
    elim c.if-is_active.branch [
      | then-is_active+in_ok-passes_limit+else-branch w ↦
          let active = sym c.is_active.ensures ∙ w.if-is_active.true in
          let under = sym w.in_ok-passes_limit.ensures ∙ w.if-branch.false in
          over_next (shelves_in c.args.desk.now) c.args.planned.now k one c.loop-one.handhelds c.loop-one.desktops c.loop-one-test.true c.one-item.is
          active under (w.handhelds-is ∙ w.with_one-handhelds.ensures) (w.desktops-is ∙ w.with_one-desktops.ensures) ∙ c.loop-one.invariant
      | else-is_active w ↦
          let skip = sym c.is_active.ensures ∙ w.if-is_active.false in
          over_past (shelves_in c.args.desk.now) c.args.planned.now k one c.loop-one.handhelds c.loop-one.desktops c.loop-one-test.true c.one-item.is
          skip w.handhelds-is w.desktops-is ∙ c.loop-one.invariant
    ]

pub returns : goal.returns
returns g c =
    sym (over_end (shelves_in c.args.desk.now) c.args.planned.now c.loop-one.one-index c.loop-one.handhelds c.loop-one.desktops (omega arith))
    ∙ c.loop-one.invariant
