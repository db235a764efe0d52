use Rattle.std.proofs.lemmas.Grind.{common_steps}
use Rattle.std.proofs.Common.{arith, ◌∙◌}
use Rattle.palm_records.proofs.CharacterLaws.{encode_utf8_all-drop}
use Rattle.palm_records.proofs.character.push_text.Goals as goal

pub loop-byte-preserved : goal.loop-byte-preserved
loop-byte-preserved c =
    encode_utf8_all-drop _ _ c.args.bytes.now c.loop-byte.byte-index (omega arith) (grind (arith, common_steps)) ∙ c.loop-byte.invariant
