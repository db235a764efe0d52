-- Rows with their block and their records.
use Rattle.std.proofs.Common.{◌≡◌, ◌∙◌, ap, map, refl}
use Rattle.category_mirror.specs.Blocks.{side_block}
use Rattle.category_mirror.specs.Refiled.{refiled_record, refiled_rows}
use Rattle.category_mirror.proofs.refiling.refiled.Goals as goal

pub returns-in-Ok : goal.returns-in-Ok
unfolding refiled_rows
returns-in-Ok c =
    let merge = c.args.merge.now in
    let block : c.in_ok-block.block.items ≡ side_block merge c.args.rows.now.app =
    c.in_ok-block.ensures ∙ ap (side_block merge) c.app.ensures.block in
    let records : c.in_ok-records.records.items ≡ map (refiled_record merge.numbers) c.args.rows.now.records =
    c.in_ok-records.ensures ∙ ap (map (refiled_record merge.numbers)) c.records.ensures.records in
    c.in-Ok.ensures.ok ∙ rw (c.in_ok-copy.ensures, records, block) refl
