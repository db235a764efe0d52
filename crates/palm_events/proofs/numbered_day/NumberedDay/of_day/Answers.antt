use Rattle.std.proofs.Common.{◌∙◌, ap, sym}
use Rattle.palm_events.specs.Calendar.{day_at}
use Rattle.palm_events.proofs.CalendarLaws.{day_at-day_number}
use Rattle.palm_events.proofs.numbered_day.NumberedDay.of_day.Goals as goal

pub invariant_of-result : goal.invariant_of-result
invariant_of-result c = record { same = sym (ap day_at c.day_number.ensures ∙ day_at-day_number c.args.day c.requires) }
