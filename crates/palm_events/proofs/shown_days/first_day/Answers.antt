use Rattle.std.proofs.Common.{◌∙◌, ◌≤◌, Some, ap, arith, rules, sym}
use Rattle.std.specs.Prelude.{option_map}
use Rattle.palm_events.specs.Calendar.{day_at}
use Rattle.palm_events.specs.Events.{event_value}
use Rattle.palm_events.specs.Shown.{first_from, first_shown, shows}
use Rattle.palm_events.proofs.CalendarLaws.{day_at-day_number, day_number-at, is_date-at}
use Rattle.palm_events.proofs.FormLaws.{few-day_number, repeat_facts}
use Rattle.palm_events.proofs.ShownLaws.{first_from-end, first_from-here, first_from-next, first_shown-is, first_shown-once, none_shown, shows-repeat}
use Rattle.palm_events.proofs.shown_days.first_day.Goals as goal

pub returns-in_default-clause-value : goal.returns-in_default-clause-value
returns-in_default-clause-value c =
    let date = c.args.event.now.date in
    sym (ap (option_map day_at) (first_shown-once (event_value c.args.event.now) c.in_default.is) ∙ ap Some (day_at-day_number date (search rules)))

pub returns-in_default-clause-first : goal.returns-in_default-clause-first
returns-in_default-clause-first c = first_shown-is (event_value c.args.event.now) _ (first_shown-once (event_value c.args.event.now) c.in_default.is)

pub last_number-last-requires : goal.last_number-last-requires
last_number-last-requires c = (repeat_facts c.in-Some.repeat (rw c.in-Some.is at c.requires.repeat)).until

pub loop-init : goal.loop-init
unfolding first_shown
loop-init c = record {
  number = omega arith;
  so_far = ap (first_from (shows (event_value c.args.event.now)) 8000) c.of_day-start.ensures;
}

pub repeats-requires-clause-few : goal.repeats-requires-clause-few
repeats-requires-clause-few c =
    omega (arith, few-day_number c.args.event.now.date c.requires.date, c.of_day-start.ensures, c.loop.invariant.number, c.loop-test.true)

pub returns-then-repeats-clause-value : goal.returns-then-repeats-clause-value
returns-then-repeats-clause-value c =
    let event = event_value c.args.event.now in
    let number = c.loop.day.number in
    let order : c.of_day-start.result.number ≤ number = omega (arith, c.loop.invariant.number) in
    let is = shows-repeat event c.in-Some.repeat c.of_day-start.result.number number _ c.in-Some.is c.of_day-start.ensures order c.repeats.ensures ∙ c.if-repeats.true in
    let found = first_from-here (shows event) 8000 c.loop.counter number c.loop-test.true is c.loop.invariant.so_far in
    sym (ap (option_map day_at) found ∙ ap Some (sym c.loop.day.same))

pub returns-then-repeats-clause-date : goal.returns-then-repeats-clause-date
returns-then-repeats-clause-date c = is_date-at c.loop.day.day c.loop.day.number c.loop.day.same

pub returns-then-repeats-clause-first : goal.returns-then-repeats-clause-first
returns-then-repeats-clause-first c =
    let event = event_value c.args.event.now in
    let number = c.loop.day.number in
    let order : c.of_day-start.result.number ≤ number = omega (arith, c.loop.invariant.number) in
    let is = shows-repeat event c.in-Some.repeat c.of_day-start.result.number number _ c.in-Some.is c.of_day-start.ensures order c.repeats.ensures ∙ c.if-repeats.true in
    let found = first_from-here (shows event) 8000 c.loop.counter number c.loop-test.true is c.loop.invariant.so_far in
    let own = day_number-at c.loop.day.day number c.loop.day.same in
    rw own (first_shown-is event number found)

pub next-day-requires : goal.next-day-requires
next-day-requires c =
    omega (arith, few-day_number c.args.event.now.date c.requires.date, c.of_day-start.ensures, c.loop.invariant.number, c.loop-test.true)

pub loop-preserved : goal.loop-preserved
loop-preserved c =
    let event = event_value c.args.event.now in
    let number = c.loop.day.number in
    let order : c.of_day-start.result.number ≤ number = omega (arith, c.loop.invariant.number) in
    let is = shows-repeat event c.in-Some.repeat c.of_day-start.result.number number _ c.in-Some.is c.of_day-start.ensures order c.repeats.ensures ∙ c.if-repeats.false in
    record {
      number = omega (arith, c.loop.invariant.number, c.next-day.ensures);
      so_far = rw c.next-day.ensures (first_from-next (shows event) 8000 c.loop.counter number c.loop-test.true is c.loop.invariant.so_far);
    }

pub returns-clause-value : goal.returns-clause-value
returns-clause-value c =
    let event = event_value c.args.event.now in
    let none = first_from-end (shows event) 8000 c.loop.counter c.loop.day.number c.loop-test.false c.loop.invariant.so_far in
    sym (ap (option_map day_at) none)

pub returns-clause-none : goal.returns-clause-none
returns-clause-none c =
    let event = event_value c.args.event.now in
    let none = first_from-end (shows event) 8000 c.loop.counter c.loop.day.number c.loop-test.false c.loop.invariant.so_far in
    none_shown event c.requires none
