use Rattle.std.proofs.Common.{◌∙◌, ◌++◌, ◌∷◌, [], ap, codes}
use Rattle.content_lines.specs.Properties.{plain_property}
use Rattle.content_lines.specs.Records.{id_digits}
use Rattle.content_lines.proofs.GrowthLaws.{grown-3}
use Rattle.content_lines.proofs.property.Properties.push_unread_name.Goals as goal

pub returns : goal.returns
returns c =
    c.in_ok-push.ensures
    ∙ ap (λ v. c.args.self.now ++ plain_property c.args.name.now v ∷ [])
    (grown-3 [] _ _ _ (codes "(unreadable record ") (id_digits c.args.id) (codes ")") c.in_ok-value.ensures c.in_ok-push_id.ensures.digits
    c.in_ok-push_plain.ensures)
