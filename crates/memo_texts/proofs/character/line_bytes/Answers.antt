use Rattle.std.proofs.lemmas.Grind.{common_steps}
use Rattle.std.proofs.Common.{◌∙◌, ap, arith, take}
use Rattle.std.specs.Prelude.{chars}
use Rattle.memo_texts.specs.declared.fault.LineFault.TheVariants as line
use Rattle.memo_texts.specs.Flaws.{flaw_from}
use Rattle.memo_texts.proofs.ByteLaws.{character_flaw-good, line_bytes-bad, line_bytes-good}
use Rattle.memo_texts.proofs.character.line_bytes.Goals as goal

pub returns-in-Ok : goal.returns-in-Ok
returns-in-Ok c =
    let good = line_bytes-good c.args.line.now c.in-Ok.ensures.cases.1 in
    let flaw = character_flaw-good c.args.line.now c.in-Ok.ensures.cases.1 in
    grind (arith, common_steps)

pub returns-in-Err : goal.returns-in-Err
returns-in-Err c = λ some.
    let size = c.valid_up_to.ensures ∙ c.in-Err.ensures.valid_len in
    let told = ap (λ n. line.BadForm (flaw_from 1 (chars (take n c.args.line.now)))) size in
    (c.fault_behind.ensures some ∙ told, line_bytes-bad c.args.line.now c.in-Err.ensures.cases.0)
