use Rattle.std.proofs.Common.{◌∙◌, ◌++◌, ◌∷◌, [], ap, codes}
use Rattle.hex.specs.Hex.{encode_lower}
use Rattle.content_lines.specs.Properties.{plain_property}
use Rattle.content_lines.proofs.property.Properties.push_unread_bytes.Goals as goal

pub returns : goal.returns
returns c =
    c.in_ok-push.ensures
    ∙ ap (λ v. c.args.self.now ++ plain_property (codes "X-PALM-RECORD") v ∷ [])
    (c.in_ok-push_hex.ensures ∙ ap (λ v. v ++ encode_lower c.args.bytes.now) c.in_ok-value.ensures)
