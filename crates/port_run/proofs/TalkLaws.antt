-- What is known of a session over a cable, by all that its calls answered.
use Rattle.std.proofs.Common.{◌≡◌, ◌∙◌, ◌≤◌, ℕ, true, List, Option, Some, None, Vec, Global, refl, sym, subst, ap, arith}
use Rattle.std.specs.Option.{option_map}
use Rattle.std.specs.Prelude.{IfErr, IfSome, Result, length}
use Rattle.hs_folders.specs.Causes.{Rose}
use Rattle.hs_folders.specs.FileMaps.{FileMap}
use Rattle.hs_folders.specs.Moments.{Moments}
use Rattle.hs_folders.proofs.MomentLaws.{no_moment}
use Rattle.desk_journal.specs.Overlays.{FinishesAs}
use Rattle.desk_store.specs.Bounds.{AreBounded}
use Rattle.desk_store.specs.Shelves.{SlotValue}
use Rattle.dlp_commands.specs.Talks.{Talk, fresh}
use Rattle.sync_session.specs.Leaving.{LeavesFolder}
use Rattle.session_parts.specs.Rests.{IsAtRest}
use Rattle.session_parts.specs.declared.outcome.Outcome.{Outcome}
use Rattle.session_parts.specs.declared.report.DbReport.{DbReport}
use Rattle.session_parts.specs.declared.stop.Stop.{Stop}
use Rattle.session_plan.specs.Tasks.{meeting_of}
use Rattle.session_plan.specs.declared.wishes.Wishes.{Wishes}
use Rattle.port_laws.specs.Palms.{IsFirstTold, IsOurs, Palm, is_first}
use Rattle.run_words.specs.Cables.{Cable}
use Rattle.port_link.specs.Calls.{LeavesWith, LinkValue, Since}
use Rattle.port_link.specs.Logs.{log_entries}
use Rattle.port_link.specs.Standing.{talk_of}
use Rattle.port_link.specs.declared.entry.Entry.{Entry}
use Rattle.port_link.specs.declared.port_cause.PortCause.{PortCause}
use Rattle.call_parts.specs.Causes.{ByEnd}
use Rattle.call_parts.specs.Closings.{left_databases, left_end}
use Rattle.call_parts.specs.Told.{FolderTold, folder_told}
use Rattle.call_parts.specs.declared.report.SessionEnd.{SessionEnd}
use Rattle.call_parts.proofs.SpokeLaws.{by_left, ended_ok}
use Rattle.cmd_status.specs.declared.status.Status.{Status}
use Rattle.cmd_status.specs.declared.status.Status.TheVariants.{NoMemory}
use Rattle.front_laws.specs.Sound.{AreSoundWishes}
use Rattle.port_run.specs.Asking.{AsksCable}
use Rattle.port_run.specs.Ends.{LeftFor}
use Rattle.port_link.specs.Causes.{link_fault}
use Rattle.sync_session.specs.StopCauses.{IsStopBy}
use Rattle.port_run.specs.Links.{LinkRan, answered, fault_of_link, link_over, port_of}
use Rattle.port_run.specs.Reports.{IsOver, IsSilent}
use Rattle.port_run.specs.Talks.{DesktopRan, HasTalked, KeptSilent, PortSession}
use Rattle.port_run.specs.Told.{PortTold}
use Rattle.port_run.specs.declared.closing.Closed.{Closed}
use Rattle.port_run.specs.declared.synced.CableReport.{CableReport}
use Rattle.port_run.specs.Wishes.{AsksFor}
use Rattle.port_run.proofs.AskedLaws.{asks_over}
use Rattle.port_run.proofs.BehindLaws.{fresh-told, left_for}
use Rattle.port_run.proofs.CloseLaws.{Closing}
use Rattle.port_run.proofs.LeftLaws.{EndsOver}
use Rattle.port_run.proofs.LinkLaws.{calls-go}

rose_later : (a b c : ℕ) → Rose a b → b ≤ c → Rose a c
rose_later a b c rose later = grind arith

-- what was said and heard
pub link_ran : {first last : LinkValue} {after : PortTold} {cause : Option PortCause} (log : Vec Entry Global) → first ≡ link_over (port_of first)
    → Since first last → LeavesWith last.begun last.cause last.scene after.given after.taken after.palm (log_entries log) → cause ≡ last.cause
    → after.paths ≡ last.paths → last.faults ≤ after.faults
    → (ran : LinkRan (port_of first) after cause (log_entries log)) × (ran.last ≡ last)
link_ran {first} {last} {after} {cause} log fresh since leaves is paths later =
    let goes = calls-go since.0 first last (ap (λ (link : LinkValue). link.cause) fresh) since.1 in
    let ran : LinkRan (port_of first) after cause (log_entries log) = record {
      last = last;
      since = subst (λ (link : LinkValue). Since link last) fresh since;
      leaves = leaves;
      cause_is = sym is;
      paths = paths ∙ goes.paths;
      later = omega (arith, goes.faults.later, later);
      failed = λ e. rose_later first.faults last.faults after.faults (goes.faults.rose (sym is ∙ e)) later;
    } in (ran, refl)

-- how the desktop's folder was changed
desk_ran : {L D : Type 0} {contents : D → Option FileMap} {moments : D → Moments} {paths : D → Option (List (List ℕ))} {faults : D → ℕ} {folder : D}
    {outcome : Outcome L D} {end : SessionEnd} → end ≡ left_end outcome.end → LeavesFolder contents moments paths faults folder outcome
    → DesktopRan (contents folder) (folder_told contents moments paths faults folder) (folder_told contents moments paths faults outcome.folder) end
desk_ran {contents = contents} {moments} {folder = folder} {outcome} is left = record {
  entries = left.entries;
  place = left.place;
  files = left.files;
  written = ended_ok outcome.end is left.written;
  stands = left.stands;
  between = moments folder;
  unchanged = no_moment (FinishesAs (contents folder)) (moments folder) (moments folder) refl;
  changed = left.each_moment;
}

-- what is left of both sides, where the port told a handheld
both_left : (downs : LinkValue → ℕ) {cable : Cable} {wishes : Wishes} (slots : List SlotValue) (link last : LinkValue)
    (after : PortTold) (desk desk_after : FolderTold) (report : CableReport) (answer : Result (Vec DbReport Global) Stop) → link ≡ link_over (port_of link)
    → IsFirstTold link.scene.palm → AsksFor cable wishes → AreBounded slots → AreSoundWishes wishes → report.end ≡ left_end answer
    → report.databases.items ≡ left_databases answer
    → ((told : Talk) → talk_of link ≡ Some told → IsAtRest told.device
    → EndsOver fault_of_link downs (meeting_of told.device slots wishes) link last desk desk_after answer)
    → (ran : LinkRan (port_of link) after report.cause (log_entries report.log)) → ran.last ≡ last
    → IfSome (port_of link).palm (λ (palm : Palm). IsAtRest palm.hand.device
    → LeftFor cable palm.hand.device slots after.palm desk desk_after (answered (link_over (port_of link)) ran.last answer) report)
both_left downs {cable} {wishes} slots link last after desk desk_after report answer was first asked bounded date end databases ends ran same =
    go (port_of link).palm refl where
      go : (told : Option Palm) → (port_of link).palm ≡ told → IfSome told (λ (palm : Palm). IsAtRest palm.hand.device
          → LeftFor cable palm.hand.device slots after.palm desk desk_after (answered (link_over (port_of link)) ran.last answer) report)
      go None is = tt
      go (Some palm) is = λ rests.
          let woken : (is_first palm ≡ true) × IsOurs palm.hand = subst IsFirstTold is first in
          let told : talk_of link ≡ Some (fresh palm.hand.device) = ap (λ (l : LinkValue). talk_of l) was ∙ fresh-told (port_of link) palm is woken.0 in
          let over = ends (fresh palm.hand.device) told rests in
          left_for downs slots (port_of link) after palm desk desk_after report (log_entries report.log) answer is woken.0 woken.1 rests asked bounded date end databases ran
          (subst (λ (l : LinkValue). EndsOver fault_of_link downs (meeting_of palm.hand.device slots wishes) l ran.last desk desk_after answer) was
          (subst (λ (l : LinkValue). EndsOver fault_of_link downs (meeting_of palm.hand.device slots wishes) link l desk desk_after answer) (sym same) over))

-- what is known of a session over a link that was fresh
pub has_talked : {D : Type 0} {contents : D → Option FileMap} {moments : D → Moments} {paths : D → Option (List (List ℕ))} {faults : D → ℕ}
    (downs : LinkValue → ℕ) {cable : Cable} {wishes : Wishes} (slots : List SlotValue) {folder : D} (link : LinkValue)
    {outcome : Outcome LinkValue D} {after : PortTold} {closed : Closed} {report : CableReport} → link ≡ link_over (port_of link)
    → IsFirstTold link.scene.palm → AsksFor cable wishes → AreBounded slots → AreSoundWishes wishes
    → (ran : LinkRan (port_of link) after report.cause (log_entries report.log)) × (ran.last ≡ outcome.link)
    → LeavesFolder contents moments paths faults folder outcome
    → ((told : Talk) → talk_of link ≡ Some told → IsAtRest told.device
    → EndsOver fault_of_link downs (meeting_of told.device slots wishes) link outcome.link (folder_told contents moments paths faults folder)
    (folder_told contents moments paths faults outcome.folder) outcome.end)
    → IfErr outcome.end (IsStopBy (option_map link_fault report.cause) (length slots))
    → AsksCable cable slots (contents folder) link outcome.link (folder_told contents moments paths faults outcome.folder) outcome.end
    → Closing report.cause outcome.end closed → report.end ≡ closed.end → report.databases.items ≡ closed.databases.items
    → HasTalked cable slots (port_of link) after (folder_told contents moments paths faults folder)
    (folder_told contents moments paths faults outcome.folder) closed.status report
has_talked {contents = contents} {moments} {paths} {faults} downs {cable} {wishes} slots {folder} link {outcome} {after} {closed} {report}
    was first asked bounded date went left ends why asks closing is databases =
    let ran = went.0 in
    let before = folder_told contents moments paths faults folder in
    let later = folder_told contents moments paths faults outcome.folder in
    record {
      shown = by_left outcome.end (KeptSilent (port_of link) after before later closed.status report) (is ∙ closing.end) (record {
        link = ran;
        changed = desk_ran (is ∙ closing.end) left;
        answer = outcome.end;
        over = subst (λ end. IsOver outcome.end end report.cause closed.status) (sym is) closing.over;
        why = why;
        asked = asks_over refl was (sym went.1) asks;
        both = both_left downs slots link outcome.link after before later report outcome.end was first asked bounded date (is ∙ closing.end)
            (databases ∙ closing.databases) ends ran went.1;
      });
      port = λ e. ran.failed (closing.port e);
      desktop = λ e. left.cause.rose (closing.desktop e);
      port_paths = ran.paths;
      desk_paths = left.same_paths;
    }

-- what is known where memory ran out before anything was said
pub kept_silent : (cable : Cable) (slots : List SlotValue) {before after : PortTold} {desk desk_after : FolderTold} {status : Status} {report : CableReport}
    → status ≡ NoMemory → IsSilent report → after ≡ before → desk_after ≡ desk → HasTalked cable slots before after desk desk_after status report
kept_silent cable slots {before} {after} {desk} {desk_after} {status} {report} memory silent port desktop = record {
  shown = subst (λ end. ByEnd end (KeptSilent before after desk desk_after status report)
      (PortSession cable slots before after desk desk_after status report)) (sym silent.end)
      (record { memory = memory; silent = silent; port = port; desktop = desktop });
  port = λ e. absurd cc;
  desktop = λ e. absurd cc;
  port_paths = ap (λ (told : PortTold). told.paths) port;
  desk_paths = ap (λ (told : FolderTold). told.paths) desktop;
}
