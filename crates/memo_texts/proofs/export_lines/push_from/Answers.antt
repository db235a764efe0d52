use Rattle.std.proofs.lemmas.Grind.{common_steps}
use Rattle.std.proofs.Common.{arith, ◌∙◌, drop_of_length-le}
use Rattle.memo_texts.specs.Memos.{lines_from}
use Rattle.memo_texts.proofs.TextLaws.{lines_from-drop}
use Rattle.memo_texts.proofs.export_lines.push_from.Goals as goal

pub loop-place-preserved : goal.loop-place-preserved
loop-place-preserved c =
    lines_from-drop _ _ c.args.memo.now c.loop-place.place (omega arith) (grind (arith, common_steps)) ∙ c.loop-place.invariant

pub returns : goal.returns
unfolding lines_from
returns c = grind (arith, common_steps, drop_of_length-le)
