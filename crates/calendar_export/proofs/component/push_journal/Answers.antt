use Rattle.std.proofs.Common.{[], ◌∷◌, codes}
use Rattle.content_lines.specs.Records.{unread_bytes, unread_name}
use Rattle.content_lines.proofs.GrowthLaws.{grown-6}
use Rattle.calendar_export.specs.Components.{begin_of, end_of, head_properties, origin_marks, origin_value, source_value}
use Rattle.calendar_export.proofs.component.push_journal.Goals as goal

pub returns : goal.returns
returns c =
    grown-6 _ _ _ _ _ _ _ (begin_of (codes "VJOURNAL") ∷ []) (head_properties (source_value c.args.source.now) c.args.origin.now.id)
    (unread_name (codes "SUMMARY") c.args.origin.now.id ∷ []) (unread_bytes c.args.bytes.now ∷ []) (origin_marks (origin_value c.args.origin.now))
    (end_of (codes "VJOURNAL") ∷ []) c.in_ok-push_plain.ensures c.in_ok-push_head.ensures c.in_ok-push_unread_name.ensures c.in_ok-push_unread_bytes.ensures
    c.in_ok-push_marks.ensures.marks c.in_ok-push_plain-2.ensures
