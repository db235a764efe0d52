use Rattle.std.proofs.Common.{[], ◌∷◌}
use Rattle.content_lines.specs.Records.{uid}
use Rattle.content_lines.proofs.GrowthLaws.{grown-2}
use Rattle.calendar_export.specs.Moments.{stamp_property}
use Rattle.calendar_export.proofs.component.push_head.Goals as goal

pub returns : goal.returns
returns c =
    grown-2 _ _ _ (uid c.args.id c.args.source.now.stem.now ∷ []) (stamp_property c.args.source.now.made ∷ []) c.in_ok-push_uid.ensures.property
    c.in_ok-push_made.ensures
