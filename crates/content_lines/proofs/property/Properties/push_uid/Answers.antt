use Rattle.std.proofs.Common.{◌∙◌, ◌++◌, ◌∷◌, [], ap, codes}
use Rattle.content_lines.specs.Properties.{plain_property}
use Rattle.content_lines.specs.Records.{id_digits}
use Rattle.content_lines.proofs.GrowthLaws.{grown-5}
use Rattle.content_lines.proofs.property.Properties.push_uid.Goals as goal

pub returns-clause-property : goal.returns-clause-property
returns-clause-property c =
    c.in_ok-push.ensures
    ∙ ap (λ v. c.args.self.now ++ plain_property (codes "UID") v ∷ [])
    (grown-5 [] _ _ _ _ _ (codes "") (id_digits c.args.id) (codes ".") c.args.stem.now (codes "@palm") c.in_ok-value.ensures c.in_ok-push_id.ensures.digits
    c.in_ok-push_plain.ensures c.in_ok-push_plain-2.ensures c.in_ok-push_plain-3.ensures)
