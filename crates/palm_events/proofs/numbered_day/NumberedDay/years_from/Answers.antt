use Rattle.std.proofs.Common.{◌≡◌, ap, arith}
use Rattle.palm_records.specs.declared.day.Day.{Day}
use Rattle.palm_events.specs.Calendar.{day_at}
use Rattle.palm_events.proofs.CalendarLaws.{year-later}
use Rattle.palm_events.proofs.numbered_day.NumberedDay.years_from.Goals as goal

pub overflow_sub-self : goal.overflow_sub-self
overflow_sub-self c =
    let late : c.args.self.day.year ≡ (day_at c.args.self.number).year = ap (λ (day : Day). day.year) c.args.self.same in
    let early : c.args.start.day.year ≡ (day_at c.args.start.number).year = ap (λ (day : Day). day.year) c.args.start.same in
    omega (arith, year-later c.args.start.number c.args.self.number c.requires, late, early)
