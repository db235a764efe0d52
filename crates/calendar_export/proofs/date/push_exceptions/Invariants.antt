use Rattle.std.proofs.Common.{◌≡◌, ◌++◌, codes, take}
use Rattle.std.specs.Prelude.{map}
use Rattle.palm_events.specs.Exceptions.{days_in}
use Rattle.calendar_export.specs.DateProperties.{day_property}
use Rattle.calendar_export.proofs.date.push_exceptions.Given as goal

abbrev pub invariant-loop-index : goal.invariant-loop-index
invariant-loop-index l =
    l.calendar ≡ l.initial.calendar ++ map (day_property (codes "EXDATE") l.time) (take l.index (days_in l.exceptions.bytes.now))
