-- What is known of a call with a session, from before its objects were opened on, whatever its command is.
use Rattle.std.proofs.Common.{◌≡◌, ◌∙◌, ◌^◌, ◌-◌, ◌≤◌, inl, inr, subst, sym}
use Rattle.std.specs.Prelude.{IfSome}
use Rattle.palm_device.specs.Devices.{Device}
use Rattle.palm_device.specs.Handles.{no_handles}
use Rattle.handheld_files.specs.Openings.{HoldsAll}
use Rattle.trace_text.specs.declared.frame.End.TheVariants as line_end
use Rattle.cmd_status.specs.Opening.{OpensGiven}
use Rattle.cmd_status.specs.Told.{SinkTold, SourceTold}
use Rattle.call_parts.specs.Causes.{EndsAs}
use Rattle.call_parts.specs.Refusals.{BlamesSource}
use Rattle.call_parts.specs.SessionCalls.{MayHaveSession, Paths, SentNothing, SessionCommand}
use Rattle.call_parts.specs.Sessions.{IsTalk, KeptSilent}
use Rattle.call_parts.specs.Stays.{StaysAsItWas}
use Rattle.call_parts.specs.Told.{CallTold, FolderTold, SidesTold, sides_of}
use Rattle.call_parts.specs.Traces.{TracesReport}
use Rattle.call_parts.proofs.RetoldLaws.{by_end_then}
use Rattle.call_parts.proofs.TraceLaws.{talk_not_in_use, talk_not_source}
use Rattle.call_parts.specs.declared.report.Report.{Report}
use Rattle.cmd_status.specs.declared.status.Status.{Status}
use Rattle.cmd_status.specs.declared.status.Status.TheVariants.{NoMemory}
use Rattle.folder_copies.proofs.CopyLaws.{rose_before}

-- what both folders were told
abbrev pub both_told : FolderTold → FolderTold → SidesTold
both_told palm desk = record { palm = palm; desk = desk }

-- what stands between the opening of all objects and the session
pub record AreOpened (paths : Paths) (before : CallTold) (source : SourceTold) (palm desk : FolderTold) (trace : SinkTold) (device : Device) : Type 0 where
  pub source_opened : OpensGiven paths.source before.source.paths source.paths
  pub handheld : IfSome before.palm.contents (λ held. HoldsAll held device.databases device.user)
  pub closed : device.handles ≡ no_handles
  pub palm_stays : StaysAsItWas before.palm palm
  pub palm_opened : OpensGiven paths.handheld before.palm.paths palm.paths
  pub palm_later : before.palm.faults ≤ palm.faults
  pub desk_opened : OpensGiven paths.desktop before.desk.paths desk.paths
  pub desk_later : before.desk.faults ≤ desk.faults
  pub trace_opened : OpensGiven paths.trace before.trace.paths trace.paths
  pub trace_taken : trace.taken ≡ before.trace.taken
  pub trace_later : before.trace.faults ≤ trace.faults

module _ (command : SessionCommand) (before after : CallTold) {palm desk : FolderTold} {trace : SinkTold} {device : Device} {status : Status}
    {report : Report} {Had : Status → Report → Type 0} (opened : AreOpened command.paths before after.source palm desk trace device)
    (kept : after.desk ≡ desk → status ≡ NoMemory → command.Kept before.desk after.desk status)
    (talk : IsTalk Had (both_told palm desk) (sides_of after) status report)
    (traced : TracesReport command.paths.trace report trace after.trace status) (ends : Had status report → EndsAs status report.end) where
  silent : KeptSilent (both_told palm desk) (sides_of after) status report → SentNothing command before after status report
  silent none = record {
    judged = inl none.memory;
    report_is = none.report_is;
    handheld = subst (StaysAsItWas before.palm) (sym none.handheld) opened.palm_stays;
    desktop = kept none.desktop none.memory;
    trace = traced.silent none.report_is.frames ∙ opened.trace_taken;
  }

  palm_there : OpensGiven command.paths.handheld before.palm.paths after.palm.paths
  palm_there = subst (OpensGiven command.paths.handheld before.palm.paths) (sym talk.paths.handheld) opened.palm_opened

  desk_there : OpensGiven command.paths.desktop before.desk.paths after.desk.paths
  desk_there = subst (OpensGiven command.paths.desktop before.desk.paths) (sym talk.paths.desktop) opened.desk_opened

  trace_there : OpensGiven command.paths.trace before.trace.paths after.trace.paths
  trace_there = subst (OpensGiven command.paths.trace before.trace.paths) (sym traced.paths) opened.trace_opened

  -- by what is known of its session once it began
  pub by_session : (Had status report → command.Had before after status report) → MayHaveSession command before after status report
  by_session had = record {
    shown = by_end_then report.end {A = KeptSilent (both_told palm desk) (sides_of after) status report} {B = Had status report}
        {C = SentNothing command before after status report} {D = command.Had before after status report} silent had talk.shown;
    blames = record {
      source = λ e. absurd (talk_not_source talk ends (subst BlamesSource (sym e) tt));
      folders = record {
        handheld = λ e. rose_before (2 ^ 64 - 1) before.palm.faults palm.faults after.palm.faults opened.palm_later (talk.blames.handheld e);
        desktop = λ e. rose_before (2 ^ 64 - 1) before.desk.faults desk.faults after.desk.faults opened.desk_later (talk.blames.desktop e);
      };
      handheld_in_use = λ e. absurd (talk_not_in_use talk ends line_end.Handheld e);
      desktop_in_use = λ e. absurd (talk_not_in_use talk ends line_end.Desktop e);
      trace = λ e. rose_before (2 ^ 64 - 1) before.trace.faults trace.faults after.trace.faults opened.trace_later (traced.failed e);
    };
    opened = record {
      handheld = inr palm_there;
      desktop = inr desk_there;
      source = inr opened.source_opened;
      trace = inr trace_there;
      handheld_opened = λ begun. palm_there;
      desktop_opened = λ begun. desk_there;
      source_opened = λ begun. opened.source_opened;
      trace_opened = λ begun. trace_there;
    };
  }
