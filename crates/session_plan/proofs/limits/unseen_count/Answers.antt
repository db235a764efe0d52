-- One row after another.
use Rattle.std.proofs.Common.{◌≡◌, arith, false, true}
use Rattle.session_plan.specs.PlannedLimits.{begins_with, unseen_count}
use Rattle.session_plan.proofs.LimitLaws.{unseen_end, unseen_more}
use Rattle.session_plan.proofs.limits.unseen_count.Goals as goal
use Rattle.session_plan.proofs.limits.unseen_count.Goals.{then-not-begins_with, else-not-begins_with}

pub loop-row-preserved : goal.loop-row-preserved
loop-row-preserved c =
    let before = c.loop-row.invariant in
    let row = c.row-item.result in
    let ahead = c.entries_from-ahead.result.now in
    let told = c.begins_with.ensures in
    elim c.if-not-begins_with.branch [
      | then-not-begins_with w ↦
          let test = w.if-not-begins_with.true in let more = w.count-is in let few = before.few in
          let begins : begins_with row.0 ahead ≡ false = grind (arith, told, test) in
          record {
            left = unseen_more false c.args.rows.now c.loop-row.row-index row c.loop-row.ahead.now ahead c.loop-row.count c.if-not-begins_with.count
                (unseen_count c.args.view.now c.args.rows.now) c.loop-row-test.true c.row-item.is c.entries_from-ahead.ensures begins more before.left;
            few = omega (arith, more, few);
          }
      | else-not-begins_with w ↦
          let test = w.if-not-begins_with.false in let same = w.count-is in let few = before.few in
          let begins : begins_with row.0 ahead ≡ true = grind (arith, told, test) in
          record {
            left = unseen_more true c.args.rows.now c.loop-row.row-index row c.loop-row.ahead.now ahead c.loop-row.count c.if-not-begins_with.count
                (unseen_count c.args.view.now c.args.rows.now) c.loop-row-test.true c.row-item.is c.entries_from-ahead.ensures begins
                (omega (arith, same)) before.left;
            few = omega (arith, same, few);
          }
    ]

pub returns : goal.returns
returns c =
    let end = unseen_end c.args.rows.now c.loop-row.row-index c.loop-row.ahead.now (omega arith) in
    let left = c.loop-row.invariant.left in omega (arith, end, left)
