use Rattle.std.proofs.Common.{◌∙◌, ap, arith}
use Rattle.content_lines.specs.Properties.{is_plain}
use Rattle.content_lines.proofs.ByteLaws.{plain-encode_lower}
use Rattle.content_lines.proofs.text.Text.push_hex.Goals as goal

pub push_plain-requires : goal.push_plain-requires
push_plain-requires c =
    ap is_plain (c.as_str.ensures.value ∙ c.in_ok-digits.ensures) ∙ plain-encode_lower c.args.bytes.now (λ i. omega (arith, c.type_inv.bytes i))
