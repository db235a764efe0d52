-- New records, one row after another.
use Rattle.std.proofs.Common.{take}
use Rattle.record_merge.specs.Writes.{numbered}
use Rattle.session_plan.proofs.RowLaws.{numbered_more, rows_on}
use Rattle.session_plan.proofs.rows.put_added.Goals as goal

pub loop-index-preserved : goal.loop-index-preserved
loop-index-preserved c =
    let before = c.loop-index.invariant in
    let k = c.loop-index.index in
    record {
      rows = rows_on c.args.rows.now.items c.loop-index.rows.items c.put_row.new.rows.items (numbered (take k c.args.given.now) (take k c.args.adds.now)) _
          (c.index-given-index.result, c.index-adds-index.result) c.in_ok-put_row.ensures.rows before.rows
          (numbered_more c.args.given.now c.args.adds.now k c.index-given-index.result c.index-adds-index.result c.requires c.loop-index-test.true
          c.index-given-index.is c.index-adds-index.is);
      bounded = λ bounded. c.in_ok-put_row.ensures.bounded (before.bounded bounded);
    }
