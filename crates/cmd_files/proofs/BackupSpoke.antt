-- What is known of the session of a backup, by what its calls answered, and whatever is written of it.
use Rattle.std.proofs.Common.{◌≡◌, ◌⊎◌, ◌∙◌, ap, append_assoc, inl, inr, subst, sym, ℕ, List, [], ◌++◌, ◌≤◌, arith, length, take}
use Rattle.std.specs.Prelude.{IfOk, IsErrOf, Option, None, Some, Result, Ok, Err, map}
use Rattle.std.specs.Global.{Vec}
use Rattle.std.proofs.lemmas.List.{map-append}
use Rattle.std.specs.List.{flat_map}
use Rattle.std.specs.Option.{option_map}
use Rattle.hs_folders.specs.Causes.{HasCause}
use Rattle.hs_folders.specs.FileMaps.{FileMap}
use Rattle.hs_folders.specs.Moments.{EachMomentSince, Moments}
use Rattle.hs_folders.proofs.MomentLaws.{moments_weaken}
use Rattle.pdb_values.specs.Databases.{DatabaseValue}
use Rattle.pdb_values.specs.declared.user.UserInfo.{UserInfo}
use Rattle.palm_device.specs.Devices.{Device}
use Rattle.handheld_files.specs.Openings.{AreKept, Stands}
use Rattle.desk_journal.specs.Entries.{EntryValue}
use Rattle.desk_journal.specs.Overlays.{put_all}
use Rattle.dlp_commands.specs.declared.link.LinkFault.{LinkFault}
use Rattle.line_script.specs.Rules.{RuleValue}
use Rattle.line_world.specs.Logs.{LogValue, no_log}
use Rattle.line_world.specs.Worlds.{WorldSince, WorldValue, world_talk}
use Rattle.desktop_session.specs.Acts.{text}
use Rattle.desktop_session.specs.Says.{IsPrefix, answered}
use Rattle.desktop_session.specs.Stops.{Does}
use Rattle.session_parts.specs.Rests.{IsAtRest}
use Rattle.session_parts.specs.declared.report.DbReport.{DbReport}
use Rattle.session_parts.specs.declared.stop.Stop.{Stop}
use Rattle.session_parts.specs.declared.stop.Stop.TheVariants as stop
use Rattle.install_backup.specs.declared.moved.MoveOutcome.{MoveOutcome}
use Rattle.install_backup.specs.BackupActs.{backup_acts, backup_of}
use Rattle.install_backup.specs.BackupEnds.{BackupEnds, backup_front, next_of, read_of}
use Rattle.install_backup.specs.Backups.{HasSome, file_of}
use Rattle.cmd_files.specs.Backups.{BackupShows, EndedBackup, HadBackup, IsBackupTalk, KeepsFiles, KeepsHandheld, backup_file}
use Rattle.call_parts.specs.Closings.{Closes, left_databases, left_end, left_in}
use Rattle.call_parts.specs.LineRuns.{log_in}
use Rattle.cmd_files.specs.Moves.{TellsMoves}
use Rattle.cmd_files.specs.declared.moved.Way.TheVariants.{ToFiles}
use Rattle.call_parts.specs.Sessions.{KeptSilent, Spoke, StandsAtFront}
use Rattle.call_parts.specs.Told.{FolderTold, SidesTold, folder_told}
use Rattle.cmd_files.proofs.BackupActLaws.{front-kept, front-writes, next-begins, next-shorter}
use Rattle.cmd_files.proofs.BackupSaid.{AreRead, ToldBackedUp, ToldBackup, all_read, backup_said, backup_shows, cause_told, ended_told, files-are, read_first, replied-many, take-past, told_fault}
use Rattle.call_parts.proofs.EndLaws.{logged_all, prefix-on}
use Rattle.call_parts.proofs.FrontLaws.{issued_begins, performed-begins}
use Rattle.call_parts.proofs.RetoldLaws.{StaysShown, had_retold}
use Rattle.call_parts.proofs.SpokeLaws.{by_left, left_desk, palm_blamed, spoke}
use Rattle.call_parts.proofs.WholeLaws.{SaidShort}
use Rattle.call_parts.specs.declared.report.Report.{Report}
use Rattle.call_parts.specs.declared.report.SessionEnd.TheVariants.{Ended}
use Rattle.cmd_status.specs.declared.status.Status.{Status}
use Rattle.install_backup.proofs.BackupOrder.{backup-order, backup_session_plain}
use Rattle.front_laws.specs.Answered.{IsAnsweredExchange}
use Rattle.call_parts.proofs.LineLaws.{line_ran}
use Rattle.cmd_files.proofs.NeverLaws.{all-answered, backup_never}
use Rattle.call_parts.proofs.SaidLaws.{all-talked, run-says}
use Rattle.call_parts.proofs.SpokeLaws.{IsUnrefusedEnd}

-- what is told is what the answer says
told_by : {F : Type 0} {device : Device} {later : List DatabaseValue} {old new : WorldValue F} (answer : Result (Vec DbReport) Stop) (report : Report)
    → IfOk answer (λ reports. ToldBackedUp device later old new reports.items) → report.databases.items ≡ left_databases answer
    → report.end ≡ left_end answer → report.end ≡ Ended → ToldBackedUp device later old new report.databases.items
told_by {device = device} {later} {old} {new} (Ok reports) report told same is ended =
    subst (λ (l : List DbReport). ToldBackedUp device later old new l) (sym same) told
told_by (Err why) report told same is ended = absurd (let both = sym is ∙ ended in cc)

-- ---- the handheld

handheld_kept : {device : Device} {before after : FolderTold} {status : Status} {report : Report}
    {rules : List RuleValue} → (spoken : Spoke (record { rules = rules; device = device; asked = map text (backup_acts device) }) before after status report)
    → KeepsHandheld device before after report
handheld_kept {device} {before} {after} {report = report} spoken =
    let kept = front-kept device spoken.line.last report.writes report.given.items spoken.front in
    record {
      stands = subst (λ (databases : List DatabaseValue). Stands after.contents databases device.user) kept.databases
          (subst (λ (user : UserInfo). Stands after.contents spoken.line.last.databases user) kept.user spoken.line.stands);
      each_moment = moments_weaken (StandsAtFront device (map text (backup_acts device))) (λ told. Stands told device.databases device.user)
          before.moments after.moments spoken.fronts stood;
      writes = front-writes device spoken.line.last report.writes report.given.items spoken.front;
    }
  where
    stood : (told : Option FileMap) → StandsAtFront device (map text (backup_acts device)) told → Stands told device.databases device.user
    stood told at =
        let kept = front-kept device at.reached at.writes at.given at.front in
        subst (λ (databases : List DatabaseValue). Stands told databases device.user) kept.databases
        (subst (λ (user : UserInfo). Stands told at.reached.databases user) kept.user at.stands)

-- ---- by all that its calls answered, over a world that was fresh
module _ {F D : Type 0} {contents : F → Option FileMap} {moments : F → Moments} {paths : F → Option (List (List ℕ))} {faults : F → ℕ}
    {desk_contents : D → Option FileMap} {desk_moments : D → Moments} (desk_paths : D → Option (List (List ℕ))) (desk_faults : D → ℕ)
    (fault : WorldValue F → Option LinkFault) (downs : WorldValue F → ℕ) {old : WorldValue F} {folder : D} {outcome : MoveOutcome (WorldValue F) D}
    (answer : Result (Vec DbReport) Stop) {status : Status} {report : Report}
    (stands : Stands (contents old.server.folder) old.server.device.databases old.server.device.user) (rests : IsAtRest old.server.device)
    (kept : AreKept old.server.device.databases) (silent : old.log ≡ no_log) (calm : old.cause ≡ None)
    (since : WorldSince contents moments paths faults old outcome.link)
    (ends : BackupEnds (λ (world : WorldValue F). Some (world_talk world)) (λ (first last : WorldValue F). WorldSince contents moments paths faults first last)
    fault downs desk_contents desk_moments old.server.device old outcome.link folder outcome.folder outcome.end)
    (told : TellsMoves ToFiles outcome.end answer) (closes : Closes outcome.link answer status report) where
  abbrev device : Device
  device = old.server.device

  abbrev new : WorldValue F
  new = outcome.link

  abbrev asked : List (List ℕ)
  asked = map text (backup_acts device)

  abbrev reached : List (List ℕ)
  reached = map text (backup_front device ++ (flat_map backup_of ends.kept ++ next_of ends.later))

  reads : AreRead device device.databases
  reads = all_read device rests kept

  first_begins : IsPrefix new.log.issued reached
  first_begins = issued_begins old new reached silent closes.tells.log ends.stops.only

  begins : IsPrefix new.log.issued asked
  begins = prefix-on first_begins (next-begins device ends.kept ends.later ends.parts)

  unkept : IsErrOf answer stop.DeskFault → SaidShort asked old new
  unkept is =
      let next = ends.unkept (told_fault outcome.end answer told is) in
      record {
        acts = backup_front device ++ (flat_map backup_of ends.kept ++ next_of ends.later);
        does = next.1;
        some = omega arith;
        short = next-shorter device ends.kept ends.later ends.parts next.0;
      }

  told_backup : ToldBackup fault device ends.kept ends.later old new answer
  told_backup = record {
    ended = ended_told fault device old new ends.later outcome.end answer reads ends.ended told;
    cause = cause_told fault device old new outcome.end answer ends.cause told;
    unkept = unkept;
  }

  abbrev palm : FolderTold
  palm = folder_told contents moments paths faults old.server.folder

  abbrev palm_after : FolderTold
  palm_after = folder_told contents moments paths faults new.server.folder

  abbrev desk : FolderTold
  desk = folder_told desk_contents desk_moments desk_paths desk_faults folder

  abbrev desk_after : FolderTold
  desk_after = folder_told desk_contents desk_moments desk_paths desk_faults outcome.folder

  never : IsUnrefusedEnd answer
  never =
      let line = line_ran silent stands since closes.tells in
      let issued : IsPrefix (log_in report).issued asked = subst (λ (l : LogValue). IsPrefix l.issued asked) (sym closes.tells.said) begins in
      backup_never fault new (all-talked IsAnsweredExchange new closes.tells (run-says IsAnsweredExchange line issued (λ count replies last run.
      all-answered (backup_acts device) count replies last (backup_session_plain device rests) rests.proper (backup-order device count rests) run)))
      answer told_backup.cause

  spoken : Spoke (record { rules = old.script; device = device; asked = asked }) palm palm_after status report
  spoken = spoke asked stands silent since never closes
      (backup_said fault device ends.kept ends.later old new new.cause answer told_backup closes.left.status begins)

  files_are : map (λ (d : DatabaseValue). file_of (read_of device d)) ends.kept ≡ map backup_file ends.kept
  files_are = files-are device ends.kept
      (read_first device ends.kept ends.later (subst (AreRead device) (sym ends.parts) reads))

  no_more : IsPrefix (log_in report).issued reached
  no_more = subst (λ (l : LogValue). IsPrefix l.issued reached) (sym closes.tells.said) first_begins

  abbrev whole_ones : List (List ℕ)
  whole_ones = map text (backup_front device ++ flat_map backup_of ends.kept)

  reached-parts : reached ≡ whole_ones ++ map text (next_of ends.later)
  reached-parts =
      ap (λ acts. map text acts) (sym (append_assoc (backup_front device) (flat_map backup_of ends.kept) (next_of ends.later)))
      ∙ map-append text (backup_front device ++ flat_map backup_of ends.kept) (next_of ends.later)

  behind : (ends.kept ≡ []) ⊎ IsPrefix whole_ones (log_in report).performed
  behind = elim ends.behind [ inl none ↦ inl none | inr both ↦ inr (performed_ones both.0 both.1.kept) ]
    where
      performed_ones : Does (λ (world : WorldValue F). Some (world_talk world)) (backup_front device ++ flat_map backup_of ends.kept) old ends.now
          → answered (Some (world_talk ends.now)) ≤ answered (Some (world_talk new)) → IsPrefix whole_ones (log_in report).performed
      performed_ones does more =
          let many = replied-many new silent closes.tells.log does more in
          let count = length (log_in report).replies in
          let same : length new.log.replies ≡ count = ap (λ (l : LogValue). length l.replies) (sym closes.tells.said) in
          subst (λ (requests : List (List ℕ)). IsPrefix whole_ones requests)
          (sym (performed-begins spoken.line no_more ∙ ap (λ (l : List (List ℕ)). take count l) reached-parts))
          (take-past whole_ones (map text (next_of ends.later)) count (omega (arith, many, same)))

  keeps_files : KeepsFiles device desk desk_after report
  keeps_files = record {
    kept = ends.kept;
    later = ends.later;
    parts = ends.parts;
    files = ends.files ∙ ap (λ (es : List EntryValue). option_map (put_all es) (desk_contents folder)) files_are;
    each_moment = subst (λ (es : List EntryValue). EachMomentSince (HasSome es (desk_contents folder)) (desk_moments folder) (desk_moments outcome.folder))
        files_are ends.each_moment;
    behind = behind;
    no_more = no_more;
    all = λ ended. (told_by answer report told_backup.ended closes.left.databases closes.left.end ended).none;
  }

  ended_so : report.end ≡ Ended → EndedBackup device report
  ended_so ended =
      let is = told_by answer report told_backup.ended closes.left.databases closes.left.end ended in
      let logged = logged_all silent closes.tells.log is.does in
      record {
        said = record {
          issued = ap (λ (l : LogValue). l.issued) closes.tells.said ∙ logged.issued_are;
          performed = ap (λ (l : LogValue). l.performed) closes.tells.said ∙ logged.performed_are;
        };
        told = is.told;
      }

  abbrev before : SidesTold
  before = record { palm = palm; desk = desk }

  abbrev after : SidesTold
  after = record { palm = palm_after; desk = desk_after }

  had : HadBackup old.script device before after status report
  had = record {
    spoke = spoken;
    left = record { files = keeps_files; handheld = handheld_kept spoken; ended = ended_so };
    shows = backup_shows fault new new.cause answer told_backup.cause closes.left.status;
  }

  pub backup_spoke : HasCause (desk_faults folder) (desk_faults outcome.folder) (IsErrOf outcome.end stop.DeskFault)
      → desk_paths outcome.folder ≡ desk_paths folder → IsBackupTalk old.script device before after status report
  backup_spoke cause same_paths = record {
    shown = by_left answer (KeptSilent before after status report) closes.left.end had;
    blames = record {
      handheld = palm_blamed calm since closes;
      desktop = λ e. cause.rose (told_fault outcome.end answer told (left_desk answer new.cause (left_in status report) closes.left e));
    };
    paths = record { handheld = since.served.same_paths; desktop = same_paths };
  }

-- ---- whatever is written of it

shows_retold : StaysShown (λ status report. BackupShows status)
shows_retold status other report (inl same) shows = subst BackupShows (sym same) shows
shows_retold status other report (inr (inl memory)) shows = subst BackupShows (sym memory) tt
shows_retold status other report (inr (inr (done, inl untold))) shows = subst BackupShows (sym untold) tt
shows_retold status other report (inr (inr (done, inr unsaid))) shows = subst BackupShows (sym unsaid) tt

pub backup_retold : (rules : List RuleValue) (held : Device) (first last : SidesTold) → StaysShown (HadBackup rules held first last)
backup_retold rules held first last status other report is had = had_retold other shows_retold is had
