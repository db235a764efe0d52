use Rattle.std.proofs.Common.{[], ◌∷◌, codes}
use Rattle.content_lines.specs.Properties.{plain_property}
use Rattle.content_lines.proofs.GrowthLaws.{grown-3}
use Rattle.calendar_export.specs.Components.{begin_of}
use Rattle.calendar_export.proofs.component.push_opening.Goals as goal

pub returns : goal.returns
returns c =
    grown-3 _ _ _ _ (begin_of (codes "VCALENDAR") ∷ []) (plain_property (codes "VERSION") (codes "2.0") ∷ [])
    (plain_property (codes "PRODID") (codes "-//hotsync//Palm calendar//EN") ∷ []) c.in_ok-push_plain.ensures c.in_ok-push_plain-2.ensures
    c.in_ok-push_plain-3.ensures
