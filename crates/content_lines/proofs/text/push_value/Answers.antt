use Rattle.std.proofs.lemmas.Grind.{common_steps}
use Rattle.std.proofs.lemmas.Str.{IsUtf8-string_bytes}
use Rattle.std.proofs.Common.{arith, ◌∙◌, drop_of_length-le, get_or, string_bytes}
use Rattle.std.specs.Prelude.{chars}
use Rattle.content_lines.specs.Lines.{escaped}
use Rattle.content_lines.proofs.ByteLaws.{chars-escaped, escaped-drop}
use Rattle.content_lines.proofs.text.push_value.Goals as goal

pub loop-byte-preserved : goal.loop-byte-preserved
loop-byte-preserved c =
    let at = c.loop-byte.byte-index in
    let grown =
    chars-escaped (string_bytes c.loop-byte.line) (string_bytes c.push_escaped.new.text) c.char_of.result (get_or c.args.text.now at 0)
    (IsUtf8-string_bytes c.loop-byte.line) (omega (arith, c.type_inv.text at)) c.char_of.ensures c.in_ok-push_escaped.ensures in
    escaped-drop (chars (string_bytes c.loop-byte.line)) (chars (string_bytes c.push_escaped.new.text)) c.args.text.now at (omega arith) grown
    ∙ c.loop-byte.invariant

pub returns : goal.returns
unfolding escaped
returns c = grind (arith, common_steps, drop_of_length-le)
