-- One name more is counted.
use Rattle.std.proofs.Common.{◌+◌, ◌∙◌, ℕ, sym, ap, arith, cond}
use Rattle.std.specs.Prelude.{codes, string_bytes}
use Rattle.folder_files.specs.FileNames.{has_ending}
use Rattle.desk_store.specs.Finds.{rows_count}
use Rattle.desk_store.proofs.LoopLaws.{all_taken, rows_more}
use Rattle.desk_store.proofs.opening.count_rows.Goals as goal

pub loop-name-preserved : goal.loop-name-preserved
loop-name-preserved c =
    let item = c.name-item.result in
    let more = rows_more c.args.names.now c.loop-name.name-index c.loop-name-test.true c.name-item.is in
    let here = rw c.as_str.ensures.value at c.count_more-count.ensures.count in
    record {
      counted = here ∙ (ap (λ (n : ℕ). n + cond (has_ending (codes ".pdb") (string_bytes item)) 1 0) c.loop-name.invariant.counted ∙ sym more);
      bound = omega (arith, c.count_more-count.ensures.bound, c.loop-name.invariant.bound);
    }

pub returns : goal.returns
returns c = c.loop-name.invariant.counted ∙ ap rows_count (all_taken string_bytes c.args.names.now c.loop-name.name-index c.loop-name-test.false)
