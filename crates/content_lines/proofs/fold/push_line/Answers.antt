use Rattle.std.proofs.lemmas.Grind.{common_steps}
use Rattle.std.proofs.Common.{◌∙◌, arith}
use Rattle.std.proofs.lemmas.Str.{chars_past_char, IsUtf8-past_char}
use Rattle.content_lines.proofs.LineLaws.{text-end}
use Rattle.content_lines.proofs.fold.push_line.Goals as goal

pub loop-ch-preserved : goal.loop-ch-preserved
loop-ch-preserved c =
    let held = c.loop-ch.invariant in
    let parts = c.in-Some.ensures.steps.0 in
    let step = chars_past_char _ _ c.in-Some.ch held.0 parts in
    (IsUtf8-past_char _ _ c.in-Some.ch held.0 parts, c.in_ok-used.ensures.room, c.in_ok-used.ensures.text _ ∙ (rw step at held.2))

pub returns : goal.returns
returns c = text-end _ _ c.loop-ch.used _ c.in-None.ensures.steps.0.0 c.loop-ch.invariant.2 (grind (arith, common_steps))
