use Rattle.std.proofs.Common.{arith}
use Rattle.palm_events.proofs.CalendarLaws.{date_facts, high-month_days, is_date-at}
use Rattle.palm_events.proofs.shown_days.is_week.Goals as goal

pub overflow_sub-number : goal.overflow_sub-number
overflow_sub-number c = omega (arith, (date_facts c.args.day.day (is_date-at c.args.day.day c.args.day.number c.args.day.same)).day_low)

pub overflow_add-result : goal.overflow_add-result
overflow_add-result c =
    omega (
      arith,
      (date_facts c.args.day.day (is_date-at c.args.day.day c.args.day.number c.args.day.same)).day_high,
      high-month_days c.args.day.day.year c.args.day.day.month,
    )
