use Rattle.std.proofs.Common.{◌≡◌, ◌∙◌, ◌-◌, List, ap, sym, arith}
use Rattle.dlp_replies.specs.Checks.{first_bad}
use Rattle.dlp_replies.specs.EntryLists.{Row}
use Rattle.dlp_replies.specs.EntryReading.{row_checks, rows_checks, item_of}
use Rattle.dlp_replies.specs.Views.{entry_row}
use Rattle.dlp_replies.proofs.EntryLaws.{walk_on, walk_ends, values_on, values_end, no_more_rows, or_place_ok, or_place_err, row_near}
use Rattle.dlp_replies.proofs.entry_walk.first_bad_value.Goals as goal

pub returns-in_err-cells-clause-bad : goal.returns-in_err-cells-clause-bad
returns-in_err-cells-clause-bad c =
    let no = walk_ends c.args.count c.loop.counter c.loop.rest.now c.loop-test.true (sym c.in_err-cells.ensures.entry) in
    let all = c.loop.invariant.all in
    absurd cc

pub returns-in-Err-clause-bad : goal.returns-in-Err-clause-bad
returns-in-Err-clause-bad c =
    let row = entry_row c.in_ok-cells.cells in
    let bad = or_place_err (first_bad (row_checks c.loop.place row)) (item_of row) c.in-Err.bad c.in-Err.ensures in
    sym (c.loop.invariant.same ∙ values_end c.args.count c.loop.counter c.loop.place c.in-Err.bad c.loop.rest.now row c.in_ok-cells.after.now c.loop-test.true
    (sym c.in_ok-cells.ensures.entry) c.loop.invariant.all bad)

pub returns-in-Err-clause-bound : goal.returns-in-Err-clause-bound
returns-in-Err-clause-bound c =
    let row = entry_row c.in_ok-cells.cells in
    let bad = or_place_err (first_bad (row_checks c.loop.place row)) (item_of row) c.in-Err.bad c.in-Err.ensures in
    let near = row_near c.loop.place c.in-Err.bad row bad in
    omega (arith, near, c.loop.invariant.near)

pub loop-preserved : goal.loop-preserved
loop-preserved c =
    let row = entry_row c.in_ok-cells.cells in
    let good = or_place_ok (first_bad (row_checks c.loop.place row)) (item_of row) c.in_default.field-0 c.in_default.ensures in
    let size : c.from-place.result ≡ c.in_ok-cells.cells.size = c.from-place.ensures in
    record {
      near = omega (arith, c.loop.invariant.near, size, c.in_ok-cells.ensures.small);
      all = sym (walk_on c.args.count c.loop.counter c.loop.rest.now row c.in_ok-cells.after.now c.loop-test.true (sym c.in_ok-cells.ensures.entry))
          ∙ c.loop.invariant.all;
      same = rw size (c.loop.invariant.same ∙ values_on c.args.count c.loop.counter c.loop.place c.loop.rest.now row c.in_ok-cells.after.now c.loop-test.true
          (sym c.in_ok-cells.ensures.entry) c.loop.invariant.all good.0);
    }

pub returns-clause-bad : goal.returns-clause-bad
returns-clause-bad c =
    sym (c.loop.invariant.same ∙ ap (λ (rows : List Row). first_bad (rows_checks c.loop.place rows))
    (no_more_rows (c.args.count - c.loop.counter) c.loop.rest.now (omega (arith, c.loop-test.false))))
