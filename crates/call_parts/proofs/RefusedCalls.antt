-- What is known of a call that sent nothing, whatever its command is.
use Rattle.std.proofs.Common.{subst, sym}
use Rattle.cmd_status.specs.Opening.{OpensGivenAtMost}
use Rattle.call_parts.specs.Causes.{ByEnd, HasBegun}
use Rattle.call_parts.specs.Reports.{IsNotStarted}
use Rattle.call_parts.specs.SessionCalls.{BlamesByCount, MayHaveSession, SentNothing, SessionCommand}
use Rattle.call_parts.specs.Told.{CallTold}
use Rattle.call_parts.specs.declared.report.Report.{Report}
use Rattle.call_parts.specs.declared.report.SessionEnd.{SessionEnd}
use Rattle.cmd_status.specs.declared.status.Status.{Status}

-- the paths at which it opened its objects, if it did
pub record OpensSome (command : SessionCommand) (before after : CallTold) : Type 0 where
  pub handheld : OpensGivenAtMost command.paths.handheld before.palm.paths after.palm.paths
  pub desktop : OpensGivenAtMost command.paths.desktop before.desk.paths after.desk.paths
  pub source : OpensGivenAtMost command.paths.source before.source.paths after.source.paths
  pub trace : OpensGivenAtMost command.paths.trace before.trace.paths after.trace.paths

pub refused_call : (command : SessionCommand) {before after : CallTold} {status : Status} {report : Report} → SentNothing command before after status report
    → BlamesByCount before after status → OpensSome command before after → MayHaveSession command before after status report
refused_call command {before} {after} {status} {report} sent blames opens =
    let is : IsNotStarted report = sent.report_is in
    let none : HasBegun report.end → ⊥ = λ begun. subst HasBegun is.end begun in
    record {
      shown = subst (λ (e : SessionEnd). ByEnd e (SentNothing command before after status report) (command.Had before after status report)) (sym is.end) sent;
      blames = blames;
      opened = record {
        handheld = opens.handheld;
        desktop = opens.desktop;
        source = opens.source;
        trace = opens.trace;
        handheld_opened = λ begun. absurd (none begun);
        desktop_opened = λ begun. absurd (none begun);
        source_opened = λ begun. absurd (none begun);
        trace_opened = λ begun. absurd (none begun);
      };
    }
