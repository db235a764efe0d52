-- What is known of a backup over a port, by all that its calls answered.
use Rattle.std.proofs.Common.{◌≡◌, ◌∙◌, ℕ, true, List, Option, Some, None, Result, Vec, Global, ap, map, refl, subst, sym}
use Rattle.std.specs.Option.{option_map}
use Rattle.std.specs.Prelude.{IfSome, IsErrOf}
use Rattle.hs_folders.specs.Causes.{HasCause}
use Rattle.hs_folders.specs.FileMaps.{FileMap}
use Rattle.hs_folders.specs.Moments.{EachMomentSince, Moments}
use Rattle.desk_journal.specs.Overlays.{put_all}
use Rattle.dlp_commands.specs.Talks.{Talk, fresh}
use Rattle.pdb_values.specs.Databases.{DatabaseValue}
use Rattle.palm_device.specs.Devices.{Device}
use Rattle.handheld_files.specs.Openings.{AreKept}
use Rattle.session_parts.specs.Rests.{IsAtRest}
use Rattle.session_parts.specs.declared.report.DbReport.{DbReport}
use Rattle.session_parts.specs.declared.stop.Stop.{Stop}
use Rattle.session_parts.specs.declared.stop.Stop.TheVariants as stop
use Rattle.install_backup.specs.declared.moved.MoveOutcome.{MoveOutcome}
use Rattle.install_backup.specs.declared.moved.Moved.{Moved}
use Rattle.install_backup.specs.BackupEnds.{BackupEnds, BackupRan}
use Rattle.install_backup.specs.Backups.{HasSome, file_of}
use Rattle.port_laws.specs.Palms.{IsFirstTold, IsOurs, Palm, is_first}
use Rattle.port_link.specs.Calls.{LinkValue, Since}
use Rattle.port_link.specs.Logs.{log_entries}
use Rattle.port_link.specs.Standing.{talk_of}
use Rattle.run_words.specs.Porteds.{Ported}
use Rattle.cmd_status.specs.declared.status.Status.{Status}
use Rattle.cmd_status.specs.declared.status.Status.TheVariants.{NoMemory}
use Rattle.call_parts.specs.Causes.{ByEnd}
use Rattle.call_parts.specs.Closings.{left_databases, left_end}
use Rattle.call_parts.specs.Stays.{StaysAsItWas}
use Rattle.call_parts.specs.Told.{FolderTold, folder_told}
use Rattle.call_parts.proofs.SpokeLaws.{by_left}
use Rattle.cmd_files.specs.Backups.{backup_file}
use Rattle.cmd_files.specs.Moves.{TellsMoves}
use Rattle.cmd_files.specs.declared.moved.Way.TheVariants.{ToFiles}
use Rattle.cmd_files.proofs.BackupSaid.{told_fault}
use Rattle.port_run.specs.Links.{Answered, LinkRan, answered, fault_of_link, link_over, port_of}
use Rattle.port_run.specs.Reports.{IsOver, IsSilent}
use Rattle.port_run.specs.Talks.{KeptSilent}
use Rattle.port_run.specs.Told.{PortTold}
use Rattle.port_run.specs.declared.closing.Closed.{Closed}
use Rattle.port_run.specs.declared.synced.CableReport.{CableReport}
use Rattle.port_run.proofs.BehindLaws.{fresh-told}
use Rattle.port_run.proofs.CloseLaws.{Closing}
use Rattle.port_files.specs.Backups.{BackupLeft, KeepsFirst, KeepsRead, backup_command}
use Rattle.port_files.specs.Talks.{HadTalk, HasTalk, PortCommand}
use Rattle.port_files.proofs.CallLaws.{IsCarried}
use Rattle.port_files.proofs.KeepLaws.{keeps_read}
use Rattle.port_files.proofs.LeftLaws.{backup_left}

-- ---- from before the folder was opened on

read_from : {first before after : FolderTold} {report : CableReport} → StaysAsItWas first before → KeepsRead before after report → KeepsRead first after report
read_from {first} {before} {after} stays left = record {
  wholes = left.wholes;
  files = subst (λ (t : Option FileMap). after.contents ≡ option_map (put_all (map file_of left.wholes)) t) stays.contents left.files;
  each_moment = subst (λ (t : Option FileMap). EachMomentSince (HasSome (map file_of left.wholes) t) first.moments after.moments) stays.contents
      (subst (λ (m : Moments). EachMomentSince (HasSome (map file_of left.wholes) before.contents) m after.moments) stays.moments left.each_moment);
  told = left.told;
}

first_from : {device : Device} {kept : List DatabaseValue} {first before after : FolderTold} → StaysAsItWas first before → KeepsFirst device kept before after
    → KeepsFirst device kept first after
first_from {kept = kept} {first} {before} {after} stays left = record {
  files = subst (λ (t : Option FileMap). after.contents ≡ option_map (put_all (map backup_file kept)) t) stays.contents left.files;
  each_moment = subst (λ (t : Option FileMap). EachMomentSince (HasSome (map backup_file kept) t) first.moments after.moments) stays.contents
      (subst (λ (m : Moments). EachMomentSince (HasSome (map backup_file kept) before.contents) m after.moments) stays.moments left.each_moment);
}

left_from : {device : Device} {palm : Option Palm} {first before after : FolderTold} {said : Answered} {report : CableReport} → StaysAsItWas first before
    → BackupLeft device palm before after said report → BackupLeft device palm first after said report
left_from stays left = record {
  talk = left.talk;
  told = left.told;
  palm = left.palm;
  palm_is = left.palm_is;
  ran = left.ran;
  kept = left.kept;
  later = left.later;
  parts = left.parts;
  files = first_from stays left.files;
  handheld = left.handheld;
  ended = left.ended;
}

pub backup_carried : (words : Ported) → IsCarried (backup_command words)
backup_carried words = record {
  left = λ first before after report stays left. read_from stays left;
  both = λ device palm first before after said report stays both kept. left_from stays (both kept);
}

-- ---- over a link that was fresh

-- what is left of both, where the port told a handheld
both_left : {F : Type 0} (contents : F → Option FileMap) (moments : F → Moments) (paths : F → Option (List (List ℕ))) (faults : F → ℕ) (downs : LinkValue → ℕ)
    (folder folder_after : F) (link last : LinkValue) (after : PortTold) (report : CableReport) (end : Result (Vec Moved Global) Stop)
    (answer : Result (Vec DbReport Global) Stop) → link ≡ link_over (port_of link) → IsFirstTold link.scene.palm → TellsMoves ToFiles end answer
    → report.end ≡ left_end answer → report.databases.items ≡ left_databases answer
    → ((told : Talk) → talk_of link ≡ Some told → IsAtRest told.device
    → BackupEnds talk_of (λ (first last : LinkValue). Since first last) fault_of_link downs contents moments told.device link last folder folder_after end)
    → (ran : LinkRan (port_of link) after report.cause (log_entries report.log)) → ran.last ≡ last
    → IfSome (port_of link).palm (λ (palm : Palm). IsAtRest palm.hand.device → AreKept palm.hand.device.databases
    → BackupLeft palm.hand.device after.palm (folder_told contents moments paths faults folder) (folder_told contents moments paths faults folder_after)
    (answered (link_over (port_of link)) ran.last answer) report)
both_left contents moments paths faults downs folder folder_after link last after report end answer was first tells same databases ends ran is =
    go (port_of link).palm refl where
      go : (told : Option Palm) → (port_of link).palm ≡ told → IfSome told (λ (palm : Palm). IsAtRest palm.hand.device → AreKept palm.hand.device.databases
          → BackupLeft palm.hand.device after.palm (folder_told contents moments paths faults folder) (folder_told contents moments paths faults folder_after)
          (answered (link_over (port_of link)) ran.last answer) report)
      go None none = tt
      go (Some palm) some = λ rests kept.
          let woken : (is_first palm ≡ true) × IsOurs palm.hand = subst IsFirstTold some first in
          let told : talk_of link ≡ Some (fresh palm.hand.device) = ap (λ (l : LinkValue). talk_of l) was ∙ fresh-told (port_of link) palm some woken.0 in
          let over = ends (fresh palm.hand.device) told rests in
          backup_left contents moments paths faults downs (port_of link) after palm report (log_entries report.log) end answer some woken.0 woken.1 rests kept
          tells same databases ran
          (subst (λ (l : LinkValue). BackupEnds talk_of (λ (first last : LinkValue). Since first last) fault_of_link downs contents moments palm.hand.device
          l ran.last folder folder_after end) was
          (subst (λ (l : LinkValue). BackupEnds talk_of (λ (first last : LinkValue). Since first last) fault_of_link downs contents moments palm.hand.device
          link l folder folder_after end) (sym is) over))

-- what is known of a backup over it
pub has_talk : {F : Type 0} (contents : F → Option FileMap) (moments : F → Moments) (paths : F → Option (List (List ℕ))) (faults : F → ℕ)
    (downs : LinkValue → ℕ) (words : Ported) (folder : F) (link : LinkValue) (outcome : MoveOutcome LinkValue F) (answer : Result (Vec DbReport Global) Stop)
    {after : PortTold} {closed : Closed} {report : CableReport} → link ≡ link_over (port_of link) → IsFirstTold link.scene.palm
    → (ran : LinkRan (port_of link) after report.cause (log_entries report.log)) × (ran.last ≡ outcome.link)
    → BackupRan talk_of (λ (first last : LinkValue). Since first last) fault_of_link downs contents moments link folder outcome
    → ((told : Talk) → talk_of link ≡ Some told → IsAtRest told.device
    → BackupEnds talk_of (λ (first last : LinkValue). Since first last) fault_of_link downs contents moments told.device link outcome.link folder outcome.folder
    outcome.end) → HasCause (faults folder) (faults outcome.folder) (IsErrOf outcome.end stop.DeskFault) → paths outcome.folder ≡ paths folder
    → TellsMoves ToFiles outcome.end answer → Closing report.cause answer closed → report.end ≡ closed.end
    → report.databases.items ≡ closed.databases.items
    → HasTalk (backup_command words) (port_of link) after (folder_told contents moments paths faults folder)
    (folder_told contents moments paths faults outcome.folder) closed.status report
has_talk contents moments paths faults downs words folder link outcome answer {after} {closed} {report}
    was first went backup ends cause same_paths tells closing is databases =
    let ran = went.0 in
    let before = folder_told contents moments paths faults folder in
    let later = folder_told contents moments paths faults outcome.folder in
    record {
      shown = by_left answer (KeptSilent (port_of link) after before later closed.status report) (is ∙ closing.end) (record {
        link = ran;
        answer = answer;
        over = subst (λ end. IsOver answer end report.cause closed.status) (sym is) closing.over;
        left = keeps_read talk_of (λ (first last : LinkValue). Since first last) fault_of_link downs contents moments paths faults folder outcome answer tells
            (is ∙ closing.end) (databases ∙ closing.databases) backup;
        both = both_left contents moments paths faults downs folder outcome.folder link outcome.link after report outcome.end answer was first tells
            (is ∙ closing.end) (databases ∙ closing.databases)
            ends ran went.1;
      });
      port = λ e. ran.failed (closing.port e);
      desktop = λ e. cause.rose (told_fault outcome.end answer tells (closing.desktop e));
      port_paths = ran.paths;
      folder_paths = same_paths;
    }

-- what is known where memory ran out before anything was said
pub kept_silent : (command : PortCommand) {before after : PortTold} {folder folder_after : FolderTold} {status : Status} {report : CableReport}
    → status ≡ NoMemory → IsSilent report → after ≡ before → folder_after ≡ folder → HasTalk command before after folder folder_after status report
kept_silent command {before} {after} {folder} {folder_after} {status} {report} memory silent port same = record {
  shown = subst (λ end. ByEnd end (KeptSilent before after folder folder_after status report) (HadTalk command before after folder folder_after status report))
      (sym silent.end) (record { memory = memory; silent = silent; port = port; desktop = same });
  port = λ e. absurd cc;
  desktop = λ e. absurd cc;
  port_paths = ap (λ (told : PortTold). told.paths) port;
  folder_paths = ap (λ (told : FolderTold). told.paths) same;
}
