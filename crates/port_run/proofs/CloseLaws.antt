-- What the status of a session over a cable says.
use Rattle.std.proofs.lemmas.Grind.{common_steps}
use Rattle.std.proofs.Common.{◌≡◌, Option, Some, Result, Ok, Err, sym, subst, ap, arith}
use Rattle.std.specs.Global.{Vec}
use Rattle.std.specs.Prelude.{IsErrOf}
use Rattle.call_parts.specs.Causes.{IsUnsaid}
use Rattle.call_parts.specs.Closings.{left_databases, left_end}
use Rattle.cmd_status.specs.declared.status.Status.{Status}
use Rattle.cmd_status.specs.declared.status.Status.TheVariants.{PortFailed, DesktopFolder}
use Rattle.port_link.specs.declared.port_cause.PortCause.{PortCause}
use Rattle.port_link.specs.declared.port_cause.PortCause.TheVariants as cause
use Rattle.session_parts.specs.declared.report.DbReport.{DbReport}
use Rattle.session_parts.specs.declared.stop.Stop.{Stop}
use Rattle.session_parts.specs.declared.stop.Stop.TheVariants as stop
use Rattle.port_run.specs.Causes.{stop_status}
use Rattle.port_run.specs.Reports.{IsClosed, IsOver}
use Rattle.port_run.specs.declared.closing.Closed.{Closed}

-- it blames the port for its cause, and the folder for its failure, and neither the trace nor
-- standard output
record Blames (down : Option PortCause) (why : Stop) (status : Status) : Type 0 where
  port : status ≡ PortFailed → down ≡ Some cause.PortFailed
  desktop : status ≡ DesktopFolder → why ≡ stop.DeskFault
  unsaid : IsUnsaid status

stop_blames : (down : Option PortCause) (why : Stop) → Blames down why (stop_status down why)
stop_blames down why = grind (arith, common_steps)

-- the same by what a session answered
pub record Closing (down : Option PortCause) (answer : Result (Vec DbReport) Stop) (closed : Closed) : Type 0 where
  pub end : closed.end ≡ left_end answer
  pub databases : closed.databases.items ≡ left_databases answer
  pub over : IsOver answer closed.end down closed.status
  pub port : closed.status ≡ PortFailed → down ≡ Some cause.PortFailed
  pub desktop : closed.status ≡ DesktopFolder → IsErrOf answer stop.DeskFault
  pub unsaid : IsUnsaid closed.status

pub closing : (down : Option PortCause) (answer : Result (Vec DbReport) Stop) (closed : Closed) → IsClosed down answer closed → Closing down answer closed
closing down (Ok databases) closed is = record {
  end = is.1;
  databases = ap (λ (made : Vec DbReport). made.items) is.2;
  over = (is.1, is.0);
  port = λ e. absurd cc;
  desktop = λ e. absurd cc;
  unsaid = subst IsUnsaid (sym is.0) tt;
}
closing down (Err why) closed is =
    let blames = subst (Blames down why) (sym is.0) (stop_blames down why) in
    record {
      end = is.1;
      databases = is.2;
      over = (is.1, is.0);
      port = blames.port;
      desktop = λ e. ap Err (blames.desktop e);
      unsaid = blames.unsaid;
    }
