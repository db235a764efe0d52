-- The report of a call over a cable.
use Rattle.std.specs.Prelude.{◌≡◌, [], None, Option, Result, Ok, Err}
use Rattle.std.specs.Global.{Vec}
use Rattle.port_link.specs.declared.port_cause.PortCause.{PortCause}
use Rattle.session_parts.specs.declared.report.DbReport.{DbReport}
use Rattle.session_parts.specs.declared.stop.Stop.{Stop}
use Rattle.call_parts.specs.declared.report.SessionEnd.{SessionEnd}
use Rattle.call_parts.specs.declared.report.SessionEnd.TheVariants.{NotStarted, Ended, Stopped}
use Rattle.cmd_status.specs.declared.status.Status.{Status}
use Rattle.cmd_status.specs.declared.status.Status.TheVariants.{Done}
use Rattle.port_run.specs.Causes.{stop_status}
use Rattle.port_run.specs.declared.closing.Closed.{Closed}
use Rattle.port_run.specs.declared.synced.CableReport.{CableReport}

-- nothing was said over the port, and nothing was done
pub record IsSilent (report : CableReport) : Type 0 where
  pub end : report.end ≡ NotStarted
  pub databases : report.databases.items ≡ []
  pub cause : report.cause ≡ None
  pub log : report.log.items ≡ []

-- a session that ended is done; one that stopped has the status of that
abbrev pub IsClosed : Option PortCause → Result (Vec DbReport) Stop → Closed → Type 0
IsClosed cause (Ok databases) closed =
    (closed.status ≡ Done) × (closed.end ≡ Ended) × (closed.databases ≡ databases)
IsClosed cause (Err stop) closed =
    (closed.status ≡ stop_status cause stop) × (closed.end ≡ Stopped)
    × (closed.databases.items ≡ [])

-- how far a session came by what it answered, and its status: one that stopped has that of its own
-- stop
abbrev pub IsOver : Result (Vec DbReport) Stop → SessionEnd → Option PortCause → Status → Type 0
IsOver (Ok databases) end cause status = (end ≡ Ended) × (status ≡ Done)
IsOver (Err stop) end cause status = (end ≡ Stopped) × (status ≡ stop_status cause stop)
