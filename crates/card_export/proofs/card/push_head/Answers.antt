use Rattle.std.proofs.Common.{[], ◌∷◌, codes}
use Rattle.content_lines.specs.Properties.{plain_property}
use Rattle.content_lines.specs.Records.{uid}
use Rattle.content_lines.proofs.GrowthLaws.{grown-4}
use Rattle.card_export.proofs.card.push_head.Goals as goal

pub returns-clause-head : goal.returns-clause-head
returns-clause-head c =
    grown-4 _ _ _ _ _ (plain_property (codes "BEGIN") (codes "VCARD") ∷ []) (plain_property (codes "VERSION") (codes "3.0") ∷ [])
    (plain_property (codes "PRODID") (codes "-//hotsync//Palm address book//EN") ∷ []) (uid c.args.id c.args.stem.now ∷ []) c.in_ok-push_plain.ensures
    c.in_ok-push_plain-2.ensures c.in_ok-push_plain-3.ensures c.in_ok-push_uid.ensures.property
