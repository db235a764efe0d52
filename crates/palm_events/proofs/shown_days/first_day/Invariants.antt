use Rattle.std.proofs.Common.{◌≡◌, ◌+◌, ◌-◌}
use Rattle.palm_events.specs.Events.{event_value}
use Rattle.palm_events.specs.Shown.{first_from, first_shown, shows}
use Rattle.palm_events.proofs.shown_days.first_day.Given as goal

abbrev pub invariant-loop : goal.invariant-loop
invariant-loop l = record {
  number : l.day.number ≡ l.start.number + l.counter;
  so_far : first_from (shows (event_value l.event)) (8000 - l.counter) l.day.number ≡ first_shown (event_value l.event);
}
