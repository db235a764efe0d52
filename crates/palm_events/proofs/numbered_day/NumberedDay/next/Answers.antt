use Rattle.std.proofs.Common.{◌≡◌, ◌∙◌, ◌+◌, ap, arith}
use Rattle.palm_records.specs.declared.day.Day.{Day}
use Rattle.palm_events.specs.Calendar.{day_at}
use Rattle.palm_events.proofs.CalendarLaws.{day_number-at, is_date-at, year-day_at}
use Rattle.palm_events.proofs.numbered_day.NumberedDay.next.Goals as goal

pub next_day-requires-clause-date : goal.next_day-requires-clause-date
next_day-requires-clause-date c = is_date-at c.args.self.day c.args.self.number c.args.self.same

pub next_day-requires-clause-year : goal.next_day-requires-clause-year
next_day-requires-clause-year c =
    let same : c.args.self.day.year ≡ (day_at c.args.self.number).year = ap (λ (day : Day). day.year) c.args.self.same in
    omega (arith, year-day_at c.args.self.number, same)

pub invariant_of-result : goal.invariant_of-result
invariant_of-result c = record {
  same = c.next_day.ensures ∙ ap (λ number. day_at (number + 1)) (day_number-at c.args.self.day c.args.self.number c.args.self.same);
}
