-- What is known of a call at a port with a session, from before its objects were opened on.
use Rattle.std.proofs.Common.{◌≡◌, ◌∙◌, ◌-◌, ◌^◌, ◌≤◌, inl, inr, Option, Some, None, subst, sym}
use Rattle.std.specs.Prelude.{IfSome}
use Rattle.palm_device.specs.Devices.{Device}
use Rattle.port_laws.specs.Palms.{Palm}
use Rattle.session_parts.specs.Rests.{IsAtRest}
use Rattle.trace_text.specs.declared.frame.End.{End}
use Rattle.cmd_status.specs.Opening.{Opens, OpensGiven, OpensGivenAtMost}
use Rattle.cmd_status.specs.Told.{SinkTold}
use Rattle.cmd_status.specs.declared.status.Status.{Status}
use Rattle.cmd_status.specs.declared.status.Status.TheVariants.{InUse}
use Rattle.call_parts.specs.Stays.{StaysAsItWas}
use Rattle.call_parts.specs.Told.{FolderTold}
use Rattle.call_parts.proofs.RetoldLaws.{by_end_both, by_end_then}
use Rattle.call_parts.proofs.TraceLaws.{traced_from}
use Rattle.folder_copies.proofs.CopyLaws.{rose_before}
use Rattle.port_run.specs.Links.{Answered, answered, link_over}
use Rattle.port_run.specs.Talks.{KeptSilent, StaysUnsaid}
use Rattle.port_run.specs.Told.{PortTold, SyncTold}
use Rattle.port_run.specs.declared.synced.CableReport.{CableReport}
use Rattle.port_run.proofs.DockLaws.{traced_port}
use Rattle.port_run.proofs.SyncLaws.{over_not_in_use, traced_desktop, traced_in_use, traced_memory}
use Rattle.port_files.specs.Calls.{MayTalk, PortRan, SentNothing}
use Rattle.port_files.specs.Talks.{HadTalk, PortCommand, TracesPort}

-- what a command says of its folder and of the handheld holds from before that was opened on, since
-- then it was only read
pub record IsCarried (command : PortCommand) : Type 0 where
  pub left : (first before after : FolderTold) (report : CableReport) → StaysAsItWas first before → command.Left before after report
      → command.Left first after report
  pub both : (device : Device) (palm : Option Palm) (first before after : FolderTold) (said : Answered) (report : CableReport) → StaysAsItWas first before
      → command.Both device palm before after said report → command.Both device palm first after said report

-- what stands between the opening of all objects and their session
pub record AreOpened (command : PortCommand) (before : SyncTold) (port : PortTold) (folder : FolderTold) (trace : SinkTold) : Type 0 where
  pub unsaid : StaysUnsaid before.port port
  pub port_opened : Opens command.words.port before.port.paths port.paths
  pub port_later : before.port.faults ≤ port.faults
  pub has : command.Has before.desk.contents
  pub stays : StaysAsItWas before.desk folder
  pub folder_opened : Opens command.words.other before.desk.paths folder.paths
  pub folder_later : before.desk.faults ≤ folder.faults
  pub trace_opened : OpensGiven command.words.trace before.trace.paths trace.paths
  pub trace_at_most : OpensGivenAtMost command.words.trace before.trace.paths trace.paths
  pub trace_taken : trace.taken ≡ before.trace.taken
  pub trace_later : before.trace.faults ≤ trace.faults

module _ {command : PortCommand} (carried : IsCarried command) (before after : SyncTold) {port : PortTold} {folder : FolderTold} {trace : SinkTold}
    {status : Status} {report : CableReport} (opened : AreOpened command before port folder trace)
    (talk : TracesPort command (record { port = port; desk = folder; trace = trace }) after status report) where
  silent : KeptSilent port after.port folder after.desk talk.said report → SentNothing command before after status report
  silent kept = record {
    judged = inl (traced_memory talk.said status talk.traces.stands.status_is kept.memory);
    silent = kept.silent;
    port = subst (StaysUnsaid before.port) (sym kept.port) opened.unsaid;
    folder = subst (StaysAsItWas before.desk) (sym kept.desktop) opened.stays;
    trace = talk.silent kept.silent.log ∙ opened.trace_taken;
  }

  both_from : (said : Answered) (told : Option Palm)
      → IfSome told (λ (palm : Palm). IsAtRest palm.hand.device → command.Both palm.hand.device after.port.palm folder after.desk said report)
      → IfSome told (λ (palm : Palm). IsAtRest palm.hand.device → command.Both palm.hand.device after.port.palm before.desk after.desk said report)
  both_from said None both = tt
  both_from said (Some palm) both = λ rests.
      carried.both palm.hand.device after.port.palm before.desk folder after.desk said report opened.stays (both rests)

  session : HadTalk command port after.port folder after.desk talk.said report → PortRan command before after status report
  session had = record {
    has = opened.has;
    opened = port;
    unsaid = opened.unsaid;
    link = had.link;
    answer = had.answer;
    tells = record { said = talk.said; over = had.over; traced = talk.traces.stands.status_is };
    left = carried.left before.desk folder after.desk report opened.stays had.left;
    traced = traced_from before.trace opened.trace_taken opened.trace_later talk.traces.traced_is;
    both = subst (λ (told : Option Palm). IfSome told (λ (palm : Palm). IsAtRest palm.hand.device
        → command.Both palm.hand.device after.port.palm before.desk after.desk (answered (link_over port) had.link.last had.answer) report)) opened.unsaid.palm
        (both_from (answered (link_over port) had.link.last had.answer) port.palm had.both);
  }

  not_in_use : (end : End) → status ≡ InUse end → ⊥
  not_in_use end e =
      let same = traced_in_use talk.said status end talk.traces.stands.status_is e in
      by_end_both report.end {A = KeptSilent port after.port folder after.desk talk.said report}
      {B = HadTalk command port after.port folder after.desk talk.said report} {C = ⊥} (λ kept. let memory = kept.memory in absurd cc)
      (λ had. over_not_in_use had.answer report.end report.cause talk.said end had.over same) talk.talked.shown

  -- a call with a session
  pub by_talk : MayTalk command before after status report
  by_talk =
      let said = talk.traces.stands in
      record {
        shown = by_end_then report.end {A = KeptSilent port after.port folder after.desk talk.said report}
            {B = HadTalk command port after.port folder after.desk talk.said report} {C = SentNothing command before after status report}
            {D = PortRan command before after status report} silent session talk.talked.shown;
        blames = record {
          port = λ e. rose_before (2 ^ 64 - 1) before.port.faults port.faults after.port.faults opened.port_later
              (talk.talked.port (traced_port talk.said status said.status_is e));
          desktop = λ e. rose_before (2 ^ 64 - 1) before.desk.faults folder.faults after.desk.faults opened.folder_later
              (talk.talked.desktop (traced_desktop talk.said status said.status_is e));
          in_use = λ e. absurd (not_in_use _ e);
          trace = λ e. rose_before (2 ^ 64 - 1) before.trace.faults trace.faults after.trace.faults opened.trace_later (said.failed e);
        };
        opened = record {
          port = inr (talk.talked.port_paths ∙ opened.port_opened);
          folder = inr (talk.talked.folder_paths ∙ opened.folder_opened);
          trace = subst (OpensGivenAtMost command.words.trace before.trace.paths) (sym said.paths) opened.trace_at_most;
          port_opened = λ begun. talk.talked.port_paths ∙ opened.port_opened;
          folder_opened = λ begun. talk.talked.folder_paths ∙ opened.folder_opened;
          trace_opened = λ begun. subst (OpensGiven command.words.trace before.trace.paths) (sym said.paths) opened.trace_opened;
        };
      }
