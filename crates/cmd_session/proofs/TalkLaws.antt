-- What is known of the session of a run, by what its calls answered.
use Rattle.std.proofs.Common.{◌≡◌, refl, subst, ℕ, List}
use Rattle.std.specs.Prelude.{Option, None, Result}
use Rattle.std.specs.Global.{Vec}
use Rattle.hs_folders.specs.FileMaps.{FileMap}
use Rattle.hs_folders.specs.Moments.{Moments}
use Rattle.hs_folders.proofs.MomentLaws.{no_moment}
use Rattle.handheld_files.specs.Openings.{Stands}
use Rattle.desk_journal.specs.Overlays.{FinishesAs}
use Rattle.desk_store.specs.Shelves.{SlotValue}
use Rattle.dlp_commands.specs.declared.link.LinkFault.{LinkFault}
use Rattle.line_world.specs.Logs.{LogValue, no_log}
use Rattle.line_world.specs.Worlds.{WorldSince, WorldValue}
use Rattle.desktop_session.specs.Says.{IsPrefix}
use Rattle.run_words.specs.Runs.{Run}
use Rattle.sync_session.specs.Leaving.{LeavesFolder}
use Rattle.sync_session.specs.Outcomes.{ChangesDesk, tellings}
use Rattle.sync_session.specs.Sessions.{requests}
use Rattle.session_parts.specs.declared.outcome.Outcome.{Outcome}
use Rattle.session_parts.specs.declared.report.DbReport.{DbReport}
use Rattle.session_parts.specs.declared.stop.Stop.{Stop}
use Rattle.session_plan.specs.Tasks.{Meeting, meeting_of}
use Rattle.session_plan.specs.declared.wishes.Wishes.{Wishes}
use Rattle.front_laws.specs.Sound.{IsSoundMeeting}
use Rattle.call_parts.specs.Closings.{Closes, left_end, left_in}
use Rattle.cmd_session.specs.Ends.{SessionLeft}
use Rattle.call_parts.specs.Sessions.{KeptSilent}
use Rattle.cmd_session.specs.Talks.{DesktopRan, IsRunTalk, BegunSession, TalkedFor}
use Rattle.call_parts.specs.Told.{FolderTold, SidesTold, folder_told}
use Rattle.cmd_session.specs.Wishes.{AsksFor}
use Rattle.cmd_session.proofs.LeftLaws.{EndsOver, session_left}
use Rattle.call_parts.proofs.SaidLaws.{Tells, all-talked}
use Rattle.call_parts.proofs.LineLaws.{line_ran}
use Rattle.cmd_session.proofs.MeetingSaid.{meeting_said}
use Rattle.call_parts.proofs.SpokeLaws.{by_left, ended_ok, left_desk, palm_blamed, spoke}
use Rattle.cmd_session.proofs.StatusLaws.{refusal_told, status_shows}
use Rattle.call_parts.specs.declared.report.Report.{Report}
use Rattle.call_parts.specs.declared.report.SessionEnd.{SessionEnd}
use Rattle.cmd_status.specs.declared.status.Status.{Status}
use Rattle.front_laws.specs.Answered.{IsAnsweredExchange}
use Rattle.cmd_session.proofs.AnsweredLaws.{session_answered}
use Rattle.cmd_session.proofs.NeverLaws.{meeting_never}

desk_changed : {meeting : Meeting} (before after : FolderTold) (answer : Result (Vec DbReport) Stop) {end : SessionEnd} → end ≡ left_end answer
    → ChangesDesk meeting (record {
      before = before.contents;
      after = after.contents;
      moments_before = before.moments;
      moments_after = after.moments;
    }) answer → DesktopRan meeting before.contents before after end
desk_changed before after answer is changes = record {
  entries = changes.entries;
  files = changes.files;
  written = ended_ok answer is changes.written;
  stands = changes.stands;
  between = before.moments;
  unchanged = no_moment (FinishesAs before.contents) before.moments before.moments refl;
  changed = changes.each_moment;
}

-- what is known of the session of a run over a world that was fresh, by all that its calls answered
pub run_spoke : {F D : Type 0} {contents : F → Option FileMap} {moments : F → Moments} {paths : F → Option (List (List ℕ))} {faults : F → ℕ}
    {desk_contents : D → Option FileMap} {desk_moments : D → Moments} {desk_paths : D → Option (List (List ℕ))} {desk_faults : D → ℕ}
    (fault : WorldValue F → Option LinkFault) (downs : WorldValue F → ℕ) {run : Run} {wishes : Wishes} (slots : List SlotValue) {old : WorldValue F}
    {folder : D} {outcome : Outcome (WorldValue F) D} {status : Status} {report : Report}
    → AsksFor run wishes → Stands (contents old.server.folder) old.server.device.databases old.server.device.user → old.log ≡ no_log → old.cause ≡ None
    → WorldSince contents moments paths faults old outcome.link → LeavesFolder desk_contents desk_moments desk_paths desk_faults folder outcome
    → IsSoundMeeting (meeting_of old.server.device slots wishes)
    → EndsOver contents moments paths faults fault downs (meeting_of old.server.device slots wishes) old outcome.link
    (folder_told desk_contents desk_moments desk_paths desk_faults folder)
    (folder_told desk_contents desk_moments desk_paths desk_faults outcome.folder) outcome.end
    → Closes outcome.link outcome.end status report
    → IsRunTalk run old.script old.server.device slots (record {
      palm = folder_told contents moments paths faults old.server.folder;
      desk = folder_told desk_contents desk_moments desk_paths desk_faults folder;
    }) (record {
      palm = folder_told contents moments paths faults outcome.link.server.folder;
      desk = folder_told desk_contents desk_moments desk_paths desk_faults outcome.folder;
    }) status report
run_spoke {contents} {moments} {paths} {faults} {desk_contents} {desk_moments} {desk_paths} {desk_faults} fault downs {run} {wishes} slots {old} {folder}
    {outcome} {status} {report} asked stands silent calm since leaves sound ends closes =
    let new = outcome.link in
    let tells = closes.tells in
    let meeting = meeting_of old.server.device slots wishes in
    let palm = folder_told contents moments paths faults old.server.folder in
    let palm_after = folder_told contents moments paths faults new.server.folder in
    let desk = folder_told desk_contents desk_moments desk_paths desk_faults folder in
    let desk_after = folder_told desk_contents desk_moments desk_paths desk_faults outcome.folder in
    let before : SidesTold = record { palm = palm; desk = desk } in
    let after : SidesTold = record { palm = palm_after; desk = desk_after } in
    let line = line_ran silent stands since tells in
    let sides : Tells old new palm_after report =
    record { silent = silent; is_log = tells.log; said = tells.said; given = line.given; writes = tells.writes; stands = since.served.stands stands } in
    let session : SessionLeft meeting palm_after desk desk_after report =
    session_left contents moments paths faults fault downs old new desk desk_after report outcome.end sound refl sides closes.left.end closes.left.databases
    ends in
    let begins : IsPrefix new.log.issued (requests meeting) = subst (λ (l : LogValue). IsPrefix l.issued (requests meeting)) tells.said session.issued in
    let of = meeting_said fault meeting old new (tellings desk_contents desk_moments folder outcome.folder) outcome.end new.cause closes.left.status begins
    ends.cause ends.ended in
    let never = meeting_never fault new (all-talked IsAnsweredExchange new tells (session_answered line session)) meeting old outcome.end ends.cause in
    let talked : BegunSession old.script meeting before after status report = record {
      spoke = spoke (requests meeting) stands silent since never closes of;
      left = session;
      shows = record {
        status_is = status_shows meeting new.cause contents moments paths faults fault downs desk desk_after outcome.end sides closes.left.status ends;
        refused = refusal_told meeting new.cause contents moments paths faults fault downs old new desk desk_after outcome.end never closes.left.status ends;
      };
    } in
    let has : TalkedFor run old.script old.server.device slots before after status report =
    record { wishes = wishes; asked = asked; talked = talked; changed = desk_changed desk desk_after outcome.end closes.left.end ends.changed } in
    record {
      shown = by_left outcome.end (KeptSilent before after status report) closes.left.end has;
      blames = record {
        handheld = palm_blamed calm since closes;
        desktop = λ e. leaves.cause.rose (left_desk outcome.end new.cause (left_in status report) closes.left e);
      };
      paths = record { handheld = since.served.same_paths; desktop = leaves.same_paths };
    }
