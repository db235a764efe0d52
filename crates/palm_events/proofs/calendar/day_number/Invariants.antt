use Rattle.std.proofs.Common.{◌≡◌, ◌+◌, ◌-◌}
use Rattle.pdb_values.specs.CivilTimes.{days_of}
use Rattle.palm_events.specs.Calendar.{month_days}
use Rattle.palm_events.proofs.calendar.day_number.Given as goal

abbrev pub invariant-loop-month : goal.invariant-loop-month
invariant-loop-month l = l.number ≡ days_of month_days 0 l.month + (l.fn.day.day - 1)
