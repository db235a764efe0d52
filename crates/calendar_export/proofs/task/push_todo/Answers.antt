use Rattle.std.proofs.Common.{[], ◌∷◌, codes}
use Rattle.palm_records.specs.Tasks.{task_value}
use Rattle.content_lines.proofs.GrowthLaws.{grown-5}
use Rattle.calendar_export.specs.Components.{begin_of, end_of, head_properties, origin_marks, origin_value, source_value}
use Rattle.calendar_export.specs.TaskProperties.{task_properties}
use Rattle.calendar_export.proofs.task.push_todo.Goals as goal

pub returns : goal.returns
returns c =
    grown-5 _ _ _ _ _ _ (begin_of (codes "VTODO") ∷ []) (head_properties (source_value c.args.source.now) c.args.origin.now.id)
    (task_properties (task_value c.args.task))
    (origin_marks (origin_value c.args.origin.now)) (end_of (codes "VTODO") ∷ []) c.in_ok-push_plain.ensures c.in_ok-push_head.ensures c.in_ok-push_task.ensures
    c.in_ok-push_marks.ensures.marks c.in_ok-push_plain-2.ensures
