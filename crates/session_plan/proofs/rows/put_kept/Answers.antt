-- What is kept, one row after another.
use Rattle.std.proofs.Common.{take}
use Rattle.mirrors.proofs.NewsLaws.{split_at}
use Rattle.session_plan.proofs.RowLaws.{rows_on}
use Rattle.session_plan.proofs.rows.put_kept.Goals as goal

pub loop-entry-preserved : goal.loop-entry-preserved
loop-entry-preserved c =
    let before = c.loop-entry.invariant in
    let split = split_at c.args.kept.now c.loop-entry.entry-index c.entry-item.result c.loop-entry-test.true c.entry-item.is in
    record {
      rows = rows_on c.args.rows.now.items c.loop-entry.rows.items c.put_row.new.rows.items (take c.loop-entry.entry-index c.args.kept.now) _
          c.entry-item.result c.in_ok-put_row.ensures.rows before.rows split.next;
      bounded = λ bounded. c.in_ok-put_row.ensures.bounded (before.bounded bounded);
    }
