use Rattle.std.proofs.Common.{◌≡◌, ap, arith}
use Rattle.palm_events.specs.Calendar.{day_at, month_number}
use Rattle.palm_events.proofs.CalendarLaws.{is_date-at, month-later}
use Rattle.palm_events.proofs.numbered_day.NumberedDay.months_from.Goals as goal

pub month_number-requires : goal.month_number-requires
month_number-requires c = is_date-at c.args.self.day c.args.self.number c.args.self.same

pub month_number-requires-2 : goal.month_number-requires-2
month_number-requires-2 c = is_date-at c.args.start.day c.args.start.number c.args.start.same

pub overflow_sub-result : goal.overflow_sub-result
overflow_sub-result c =
    let late : month_number c.args.self.day ≡ month_number (day_at c.args.self.number) = ap (λ day. month_number day) c.args.self.same in
    let early : month_number c.args.start.day ≡ month_number (day_at c.args.start.number) = ap (λ day. month_number day) c.args.start.same in
    omega (arith, month-later c.args.start.number c.args.self.number c.requires, late, early)
