use Rattle.std.proofs.Common.{[], ◌∷◌, codes}
use Rattle.palm_events.specs.Events.{event_value}
use Rattle.content_lines.proofs.GrowthLaws.{grown-7}
use Rattle.calendar_export.specs.Components.{begin_of, end_of, head_properties, origin_marks, origin_value, source_value}
use Rattle.calendar_export.specs.Dates.{date_of}
use Rattle.calendar_export.specs.DateProperties.{alarm_properties, what_properties, when_properties}
use Rattle.calendar_export.proofs.DateForms.{date-form}
use Rattle.calendar_export.proofs.date.push_event.Goals as goal

pub returns-clause-text : goal.returns-clause-text
returns-clause-text c =
    let value = date_of (event_value c.args.event.now) in
    grown-7 _ _ _ _ _ _ _ _ (begin_of (codes "VEVENT") ∷ []) (head_properties (source_value c.args.source.now) c.args.origin.now.id) (when_properties value)
    (what_properties value) (origin_marks (origin_value c.args.origin.now)) (alarm_properties c.args.event.now.description.now c.args.event.now.alarm)
    (end_of (codes "VEVENT") ∷ []) c.in_ok-push_plain.ensures c.in_ok-push_head.ensures c.in_ok-push_when.ensures c.in_ok-push_what.ensures.text
    c.in_ok-push_marks.ensures.marks c.in_ok-push_alarm.ensures c.in_ok-push_plain-2.ensures

pub returns-clause-form : goal.returns-clause-form
returns-clause-form c = date-form (event_value c.args.event.now) c.requires.form c.in_ok-push_what.ensures.description c.in_ok-push_what.ensures.note
