use Rattle.std.proofs.Common.{Option, subst, sym}
use Rattle.std.specs.Prelude.{unwrap_or}
use Rattle.palm_records.specs.declared.day.Day.{Day}
use Rattle.palm_events.specs.Events.{event_value}
use Rattle.calendar_export.specs.Moments.{IsShort}
use Rattle.calendar_export.proofs.DateForms.{short_start}
use Rattle.calendar_export.proofs.date.start_of.Goals as goal

pub returns-in-Some-clause-year : goal.returns-in-Some-clause-year
returns-in-Some-clause-year c =
    (subst (λ (o : Option Day). IsShort (unwrap_or o c.args.event.now.date)) (sym c.in-Some.ensures.value) (short_start (event_value c.args.event.now) c.requires.date)).year
