use Rattle.palm_events.proofs.CalendarLaws.{next-in_month, next-in_year, next-year}
use Rattle.palm_events.proofs.calendar.next_day.Goals as goal

pub returns-then-day-days_in_month : goal.returns-then-day-days_in_month
returns-then-day-days_in_month c = next-in_month c.args.day c.requires.date (rw c.days_in_month.ensures at c.if-day-days_in_month.true)

pub returns-then-day-lt12 : goal.returns-then-day-lt12
returns-then-day-lt12 c =
    next-in_year c.args.day c.requires.date (rw c.days_in_month.ensures at c.if-day-days_in_month.false) c.if-day-lt12.true

pub returns : goal.returns
returns c = next-year c.args.day c.requires.date (rw c.days_in_month.ensures at c.if-day-days_in_month.false) c.if-day-lt12.false
