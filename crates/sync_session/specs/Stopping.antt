-- Why a session stops, by what a part of it answered.
use Rattle.std.specs.Prelude.{◌≡◌, ℕ, List, Option, None, Some, Result, Ok, Err}
use Rattle.std.specs.Global.{Vec}
use Rattle.desktop_session.specs.declared.fault.SessionFault.TheVariants as session
use Rattle.session_parts.specs.declared.report.DbReport.{DbReport}
use Rattle.session_parts.specs.declared.stop.Stop.{Stop}
use Rattle.session_parts.specs.declared.stop.Stop.TheVariants as stop

-- why a session stops before it writes, if it does: the first database that would pass a limit, or
-- else the first that would lose live rows
abbrev pub refusal_by : Option (List ℕ) → Option (List ℕ) → Option Stop
refusal_by (Some name) loss = Some (stop.Limit name)
refusal_by None (Some name) = Some (stop.NewHandheld name)
refusal_by None None = None

-- what is told where the limits were looked at, and then what the session would cost the
-- desktop: the name of the first database that would pass a limit; else of the first one that would
-- lose live rows; else the reports; unless memory ran out
abbrev pub Judges : Option (List ℕ) → Option (List ℕ) → List DbReport
    → Result (Vec DbReport) Stop → Type 0
Judges over loss reports (Ok made) = (over ≡ None) × (loss ≡ None) × (made.items ≡ reports)
Judges over loss reports (Err (stop.Limit name)) = over ≡ Some name
Judges over loss reports (Err (stop.NewHandheld name)) = (over ≡ None) × (loss ≡ Some name)
Judges over loss reports (Err (stop.Session session.NoMemory)) = Unit {0}
Judges over loss reports (Err other) = ⊥
