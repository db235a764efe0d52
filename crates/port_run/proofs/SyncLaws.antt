-- What is known of a call over a cable with a session, from before its objects were opened on.
use Rattle.std.proofs.lemmas.Grind.{common_steps}
use Rattle.std.proofs.Common.{◌≡◌, ◌⊎◌, ◌∙◌, ◌-◌, ◌^◌, ◌≤◌, inl, inr, List, Option, Some, None, refl, sym, subst, ap, arith}
use Rattle.std.specs.Prelude.{IfSome, Result, Ok, Err}
use Rattle.std.specs.Global.{Vec}
use Rattle.std.specs.Option.{option_map}
use Rattle.hs_folders.specs.FileMaps.{FileMap}
use Rattle.hs_folders.specs.Moments.{EachMomentSince}
use Rattle.hs_folders.proofs.MomentLaws.{moments_go_on, moments_weaken}
use Rattle.desk_journal.specs.Overlays.{FinishesAs, finished, put_all}
use Rattle.desk_store.specs.Desks.{IsDesk}
use Rattle.desk_store.specs.Shelves.{SlotValue}
use Rattle.device_stream.specs.Hands.{Hand}
use Rattle.dlp_commands.specs.Talks.{Talk}
use Rattle.palm_device.specs.Devices.{Device}
use Rattle.port_laws.specs.Palms.{Palm}
use Rattle.session_parts.specs.Rests.{IsAtRest}
use Rattle.session_plan.specs.Merges.{merged_slots}
use Rattle.session_plan.specs.Tasks.{Meeting, meeting_of}
use Rattle.sync_session.specs.Outcomes.{StandsForSlots}
use Rattle.run_words.specs.Cables.{Cable}
use Rattle.trace_text.specs.declared.frame.End.{End}
use Rattle.port_link.specs.declared.port_cause.PortCause.{PortCause}
use Rattle.session_parts.specs.declared.report.DbReport.{DbReport}
use Rattle.session_parts.specs.declared.stop.Stop.{Stop}
use Rattle.cmd_status.specs.Opening.{Opens, OpensGiven, OpensGivenAtMost}
use Rattle.cmd_status.specs.Told.{SinkTold}
use Rattle.cmd_status.specs.declared.status.Status.{Status}
use Rattle.cmd_status.specs.declared.status.Status.TheVariants.{NoMemory, DesktopFolder, InUse}
use Rattle.call_parts.specs.Causes.{IsTracedStatus}
use Rattle.call_parts.specs.Refusals.{HasDesktop, LeavesDesktopUnread}
use Rattle.call_parts.specs.Stays.{StandsAsItDid}
use Rattle.call_parts.specs.Told.{FolderTold}
use Rattle.call_parts.specs.declared.report.SessionEnd.{SessionEnd}
use Rattle.call_parts.specs.declared.report.SessionEnd.TheVariants.{NotStarted, Ended, Stopped}
use Rattle.call_parts.proofs.RetoldLaws.{by_end_both, by_end_then}
use Rattle.call_parts.proofs.TraceLaws.{traced_from}
use Rattle.port_run.proofs.AskedLaws.{asks_over}
use Rattle.port_run.specs.Causes.{stop_status}
use Rattle.port_run.specs.Ends.{BothLeft, LeftFor, SessionLeft}
use Rattle.port_run.specs.Links.{Answered, answered, link_over}
use Rattle.port_run.specs.Reports.{IsOver}
use Rattle.port_run.specs.Syncs.{HasSynced, SentNothing, SessionRan, TracesTalk}
use Rattle.port_run.specs.Talks.{DesktopRan, KeptSilent, StaysUnsaid, PortSession}
use Rattle.port_run.specs.Told.{PortTold, SyncTold}
use Rattle.port_run.specs.declared.synced.CableReport.{CableReport}
use Rattle.folder_copies.proofs.CopyLaws.{rose_before}
use Rattle.port_run.proofs.DockLaws.{traced_port}

-- the desktop's folder, from before its journal was finished on
desktop_ran : {first before after : FolderTold} {end : SessionEnd} → before.contents ≡ option_map finished first.contents → StandsAsItDid first before
    → DesktopRan before.contents before after end → DesktopRan (option_map finished first.contents) first after end
desktop_ran {first} {before} {after} finished_is stood ran =
    let same : option_map (put_all ran.entries) before.contents ≡ option_map (put_all ran.entries) (option_map finished first.contents) =
    ap (λ (t : Option FileMap). option_map (put_all ran.entries) t) finished_is in
    record {
      entries = ran.entries;
      place = ran.place;
      files = ran.files;
      written = λ ended. ran.written ended ∙ same;
      stands = elim ran.stands [
        | inl stays ↦ inl (stays ∙ stood.stands)
        | inr moved ↦ inr (subst (λ (t : Option FileMap). FinishesAs t after.contents) same moved)
      ];
      between = ran.between;
      unchanged = moments_go_on (FinishesAs first.contents) first.moments before.moments ran.between stood.each_moment
          (moments_weaken (FinishesAs before.contents) (FinishesAs first.contents) before.moments ran.between ran.unchanged
          (λ told stands. stands ∙ stood.stands));
      changed = subst (λ (t : Option FileMap). EachMomentSince (FinishesAs t) ran.between after.moments) same ran.changed;
    }

-- ---- the status once the trace was to be written

pub traced_memory : (said status : Status) → IsTracedStatus said status → said ≡ NoMemory → status ≡ NoMemory
traced_memory said status is memory = grind (arith, common_steps)

pub traced_desktop : (said status : Status) → IsTracedStatus said status → status ≡ DesktopFolder → said ≡ DesktopFolder
traced_desktop said status is e = grind (arith, common_steps)

pub traced_in_use : (said status : Status) (end : End) → IsTracedStatus said status → status ≡ InUse end → said ≡ InUse end
traced_in_use said status end is e = grind (arith, common_steps)

stop_not_in_use : (cause : Option PortCause) (stop : Stop) (end : End) → stop_status cause stop ≡ InUse end → ⊥
stop_not_in_use cause stop end e = grind (arith, common_steps)

pub over_not_in_use : (answer : Result (Vec DbReport) Stop) (far : SessionEnd) (cause : Option PortCause) (status : Status) (end : End)
    → IsOver answer far cause status → status ≡ InUse end → ⊥
over_not_in_use (Ok databases) far cause status end over e = let done = over.1 in cc
over_not_in_use (Err why) far cause status end over e = stop_not_in_use cause why end (sym over.1 ∙ e)

-- ---- both sides

-- what is left of them, from before the journal was finished on
left_from : {meeting : Meeting} {talk : Talk} {hand : Hand} {first before after : FolderTold} {report : CableReport} → StandsAsItDid first before
    → SessionLeft meeting talk hand before after report → SessionLeft meeting talk hand first after report
left_from {meeting} {talk} {hand} {first} {before} {after} {report} stood left = record {
  sound = left.sound;
  issued = left.issued;
  ran = left.ran;
  front = left.front;
  ended = left.ended;
  stopped = λ e. elim (left.stopped e) [
    | inl before ↦ inl (record { stands = before.stands ∙ stood.stands; writes = before.writes })
    | inr behind ↦ inr behind
  ];
  given = left.given;
  moments = moments_go_on Stood first.moments before.moments after.moments
      (moments_weaken (FinishesAs first.contents) Stood first.moments before.moments stood.each_moment (λ told stands. inl stands))
      (moments_weaken (λ told. FinishesAs before.contents told ⊎ StandsForSlots (merged_slots meeting left.given) told) Stood before.moments after.moments
      left.moments weaker);
} where
  Stood : Option FileMap → Type 0
  Stood told = FinishesAs first.contents told ⊎ StandsForSlots (merged_slots meeting left.given) told

  weaker : (told : Option FileMap) → FinishesAs before.contents told ⊎ StandsForSlots (merged_slots meeting left.given) told → Stood told
  weaker told (inl stands) = inl (stands ∙ stood.stands)
  weaker told (inr stands) = inr stands

both_from : {cable : Cable} {device : Device} {slots : List SlotValue} {after : Option Palm} {first before later : FolderTold} {said : Answered}
    {report : CableReport} → IsDesk (option_map finished first.contents) slots → StandsAsItDid first before
    → LeftFor cable device slots after before later said report → BothLeft cable device after first later said report
both_from {device = device} {slots} desk stood left = record {
  meeting = meeting_of device slots left.wishes;
  meets = record { handheld = refl; desktop = desk; picked = refl; asked = left.asked };
  why = left.why;
  talk = left.talk;
  told = left.told;
  palm = left.palm;
  palm_is = left.palm_is;
  left = left_from stood left.left;
}

-- ---- the whole call

-- what stands between the opening of all objects and their session
pub record AreOpened (cable : Cable) (slots : List SlotValue) (before : SyncTold) (port : PortTold) (desk : FolderTold) (trace : SinkTold) : Type 0 where
  pub unsaid : StaysUnsaid before.port port
  pub port_opened : Opens cable.port before.port.paths port.paths
  pub port_later : before.port.faults ≤ port.faults
  pub desktop : HasDesktop before.desk.contents
  pub finished_is : desk.contents ≡ option_map finished before.desk.contents
  pub slots_are : IsDesk (option_map finished before.desk.contents) slots
  pub stands : StandsAsItDid before.desk desk
  pub desk_opened : Opens cable.desktop before.desk.paths desk.paths
  pub desk_later : before.desk.faults ≤ desk.faults
  pub trace_opened : OpensGiven cable.trace before.trace.paths trace.paths
  pub trace_at_most : OpensGivenAtMost cable.trace before.trace.paths trace.paths
  pub trace_taken : trace.taken ≡ before.trace.taken
  pub trace_later : before.trace.faults ≤ trace.faults

module _ {cable : Cable} {slots : List SlotValue} (before after : SyncTold) {port : PortTold} {desk : FolderTold} {trace : SinkTold} {status : Status}
    {report : CableReport} (opened : AreOpened cable slots before port desk trace) (talk : TracesTalk cable slots (record { port = port; desk = desk; trace = trace }) after status report) where
  silent_sync : KeptSilent port after.port desk after.desk talk.said report → SentNothing cable before after status report
  silent_sync kept =
      let memory = traced_memory talk.said status talk.traces.stands.status_is kept.memory in
      record {
        judged = inl memory;
        silent = kept.silent;
        port = subst (StaysUnsaid before.port) (sym kept.port) opened.unsaid;
        desktop = subst (StandsAsItDid before.desk) (sym kept.desktop) opened.stands;
        unread = λ unread. absurd (subst LeavesDesktopUnread memory unread);
        trace = talk.silent kept.silent.log ∙ opened.trace_taken;
      }

  both_sync : (said : Answered) (told : Option Palm)
      → IfSome told (λ (palm : Palm). IsAtRest palm.hand.device
      → LeftFor cable palm.hand.device slots after.port.palm desk after.desk said report)
      → IfSome told (λ (palm : Palm). IsAtRest palm.hand.device
      → BothLeft cable palm.hand.device after.port.palm before.desk after.desk said report)
  both_sync said None both = tt
  both_sync said (Some palm) both = λ rests. both_from opened.slots_are opened.stands (both rests)

  session_sync : PortSession cable slots port after.port desk after.desk talk.said report → SessionRan cable before after status report
  session_sync had = record {
    desktop = opened.desktop;
    opened = port;
    unsaid = opened.unsaid;
    link = had.link;
    changed = desktop_ran opened.finished_is opened.stands had.changed;
    answer = had.answer;
    tells = record { said = talk.said; over = had.over; traced = talk.traces.stands.status_is };
    slots = slots;
    slots_are = opened.slots_are;
    why = had.why;
    asked = asks_over opened.finished_is refl refl had.asked;
    traced = traced_from before.trace opened.trace_taken opened.trace_later talk.traces.traced_is;
    both = subst (λ (told : Option Palm). IfSome told (λ (palm : Palm). IsAtRest palm.hand.device
        → BothLeft cable palm.hand.device after.port.palm before.desk after.desk (answered (link_over port) had.link.last had.answer) report)) opened.unsaid.palm
        (both_sync (answered (link_over port) had.link.last had.answer) port.palm had.both);
  }

  not_in_use : (end : End) → status ≡ InUse end → ⊥
  not_in_use end e =
      let same = traced_in_use talk.said status end talk.traces.stands.status_is e in
      by_end_both report.end {A = KeptSilent port after.port desk after.desk talk.said report}
      {B = PortSession cable slots port after.port desk after.desk talk.said report} {C = ⊥} (λ kept. let memory = kept.memory in absurd cc) (λ had. over_not_in_use had.answer report.end report.cause talk.said end had.over same) talk.talked.shown

  -- a call with a session
  pub by_session : HasSynced cable before after status report
  by_session =
      let said = talk.traces.stands in
      record {
        shown = by_end_then report.end {A = KeptSilent port after.port desk after.desk talk.said report}
            {B = PortSession cable slots port after.port desk after.desk talk.said report} {C = SentNothing cable before after status report}
            {D = SessionRan cable before after status report} silent_sync session_sync talk.talked.shown;
        blames = record {
          port = λ e. rose_before (2 ^ 64 - 1) before.port.faults port.faults after.port.faults opened.port_later
              (talk.talked.port (traced_port talk.said status said.status_is e));
          desktop = λ e. rose_before (2 ^ 64 - 1) before.desk.faults desk.faults after.desk.faults opened.desk_later
              (talk.talked.desktop (traced_desktop talk.said status said.status_is e));
          in_use = λ e. absurd (not_in_use _ e);
          trace = λ e. rose_before (2 ^ 64 - 1) before.trace.faults trace.faults after.trace.faults opened.trace_later (said.failed e);
        };
        opened = record {
          port = inr (talk.talked.port_paths ∙ opened.port_opened);
          desktop = inr (talk.talked.desk_paths ∙ opened.desk_opened);
          trace = subst (OpensGivenAtMost cable.trace before.trace.paths) (sym said.paths) opened.trace_at_most;
          port_opened = λ begun. talk.talked.port_paths ∙ opened.port_opened;
          desktop_opened = λ begun. talk.talked.desk_paths ∙ opened.desk_opened;
          trace_opened = λ begun. subst (OpensGiven cable.trace before.trace.paths) (sym said.paths) opened.trace_opened;
        };
      }
