use Rattle.std.proofs.Common.{◌≡◌, ◌+◌, ◌/◌, ◌%◌, arith}
use Rattle.pdb_values.specs.CivilTimes.{days_of}
use Rattle.palm_events.specs.Calendar.{day_number, month_days, month_number}
use Rattle.palm_events.proofs.CalendarLaws.{date_facts, days_of-more, high-days_of, high-month_days}
use Rattle.palm_events.proofs.calendar.day_number.Goals as goal

pub loop-month-init : goal.loop-month-init
unfolding days_of
loop-month-init c = omega arith

pub overflow_add-number : goal.overflow_add-number
overflow_add-number c =
    let month = c.loop-month.month in
    omega (arith, high-days_of 0 month, high-month_days (1904 + month / 12) (month % 12 + 1), date_facts c.args.day c.requires)

pub loop-month-preserved : goal.loop-month-preserved
loop-month-preserved c = omega (arith, days_of-more month_days c.loop-month.month)

pub returns : goal.returns
unfolding day_number
returns c =
    let month : c.loop-month.month ≡ month_number c.args.day = omega arith in
    rw month at c.loop-month.invariant
