-- What holds of every backup: all objects before it, and all of them after it.
use Rattle.std.specs.Prelude.{◌≡◌, ◌⊎◌, ⊤, false, List, [], ◌++◌, length, map, Some, IfSome}
use Rattle.std.specs.List.{flat_map}
use Rattle.std.specs.Option.{option_map}
use Rattle.hs_folders.specs.FileMaps.{FileMap}
use Rattle.hs_folders.specs.Moments.{EachMomentSince}
use Rattle.pdb_values.specs.Databases.{DatabaseValue}
use Rattle.pdb_files.specs.Files.{entry_count}
use Rattle.palm_device.specs.Devices.{Device}
use Rattle.palm_device.specs.Handles.{no_handles}
use Rattle.handheld_files.specs.Openings.{HoldsAll, Stands}
use Rattle.desk_journal.specs.Entries.{EntryValue}
use Rattle.desk_journal.specs.Overlays.{put_all}
use Rattle.trace_text.specs.TraceLines.{trace_text}
use Rattle.line_script.specs.Rules.{RuleValue}
use Rattle.desktop_session.specs.Acts.{text}
use Rattle.desktop_session.specs.Says.{IsPrefix}
use Rattle.session_parts.specs.declared.report.DbReport.{DbReport}
use Rattle.session_parts.specs.declared.report.Did.TheVariants.{BackedUp}
use Rattle.install_backup.specs.BackedUp.{backed_up}
use Rattle.install_backup.specs.BackupActs.{backup_acts, backup_of}
use Rattle.install_backup.specs.BackupEnds.{backup_front, next_of}
use Rattle.install_backup.specs.Backups.{HasSome, file_of}
use Rattle.run_words.specs.Betweens.{Between}
use Rattle.cmd_status.specs.Told.{SinkTold}
use Rattle.cmd_status.specs.declared.status.Status.{Status}
use Rattle.cmd_status.specs.declared.status.Status.TheVariants.{Limit, NewHandheld, OtherUser, TooManyUsers}
use Rattle.call_parts.specs.LineRuns.{SaidAll, frames_in, log_in}
use Rattle.call_parts.specs.Judges.{Judges, Refuses}
use Rattle.call_parts.specs.Scripts.{HasScript, IsScripted, ScriptRefuses}
use Rattle.call_parts.specs.Files.{FilesRefuse, StandsApart, is_synced}
use Rattle.call_parts.specs.SessionCalls.{SessionCommand, between_paths}
use Rattle.call_parts.specs.Stays.{StaysAsItWas}
use Rattle.call_parts.specs.Sessions.{Agenda, HadSession, IsTalk}
use Rattle.call_parts.specs.Told.{CallTold, FolderTold, SidesTold, sides_of}
use Rattle.call_parts.specs.Traces.{TakesTrace}
use Rattle.call_parts.specs.Undisturbed.{IsGoodHandheld, IsGoodScript, IsKindScript, NoneFailed}
use Rattle.call_parts.specs.declared.report.Report.{Report}
use Rattle.call_parts.specs.declared.report.SessionEnd.TheVariants.{Ended}

-- ---- a backup that sent nothing

-- the script is judged, and the folder for the files
abbrev pub backup_judges : Between → Judges
backup_judges words = record {
  SourceRefuses = λ left refusal. ScriptRefuses words.script left refusal;
  HasSource = λ left. HasScript words.script left;
  FolderRefuses = λ kept refusal. FilesRefuse kept refusal;
  HasFolder = λ kept. StandsApart kept;
}

-- they, the handheld's folder between them, and the trace behind them
abbrev pub BackupRefuses : Between → CallTold → Status → Type 0
BackupRefuses words before refusal = Refuses (backup_judges words) words.trace before refusal

-- ---- a backup with a session

-- the session of a backup: the handheld, and all of its requests
abbrev pub backup_agenda : List RuleValue → Device → Agenda
backup_agenda rules device =
    record { rules = rules; device = device; asked = map text (backup_acts device) }

-- the file of a database of the handheld
abbrev pub backup_file : DatabaseValue → EntryValue
backup_file database = file_of (backed_up database)

-- what is told of it
abbrev pub backup_report : DatabaseValue → DbReport
backup_report database =
    record { name = database.head.name; did = BackedUp (entry_count database) }

-- The files of the first of the handheld's databases are put over those that were there, and no
-- others, and at each moment those of a beginning of them were. Each of these was read whole and
-- closed, and of the next one no more was asked for than its reading. Where it ended they are all.
pub record KeepsFiles (device : Device) (before after : FolderTold) (report : Report) : Type 0 where
  pub kept : List DatabaseValue
  pub later : List DatabaseValue
  pub parts : kept ++ later ≡ device.databases
  pub files : after.contents ≡ option_map (put_all (map backup_file kept)) before.contents
  pub each_moment : EachMomentSince (HasSome (map backup_file kept) before.contents) before.moments
      after.moments
  pub behind : (kept ≡ [])
      ⊎ IsPrefix (map text (backup_front device ++ flat_map backup_of kept))
      (log_in report).performed
  pub no_more : IsPrefix (log_in report).issued
      (map text (backup_front device ++ (flat_map backup_of kept ++ next_of later)))
  pub all : report.end ≡ Ended → later ≡ []

-- the handheld's folder stands for its databases and its user as before, as it did at each moment,
-- and no request was performed that changes one
pub record KeepsHandheld (device : Device) (before after : FolderTold) (report : Report)
    : Type 0 where
  pub stands : Stands after.contents device.databases device.user
  pub each_moment : EachMomentSince (λ told. Stands told device.databases device.user)
      before.moments after.moments
  pub writes : report.writes ≡ 0

-- it ended: each of its requests was issued and performed, and none else, and each database is told
pub record EndedBackup (device : Device) (report : Report) : Type 0 where
  pub said : SaidAll (map text (backup_acts device)) report
  pub told : report.databases.items ≡ map backup_report device.databases

-- what a backup leaves
pub record BackupLeft (device : Device) (before after : SidesTold) (report : Report) : Type 0 where
  pub files : KeepsFiles device before.desk after.desk report
  pub handheld : KeepsHandheld device before.palm after.palm report
  pub ended : report.end ≡ Ended → EndedBackup device report

-- what a status shows of a backup, which knows of no user and makes nothing on the handheld
abbrev pub BackupShows : Status → Type 0
BackupShows (OtherUser handheld desktop) = ⊥
BackupShows TooManyUsers = ⊥
BackupShows (Limit name) = ⊥
BackupShows (NewHandheld name) = ⊥
BackupShows other = ⊤

-- the session of a backup that began: what is known of every session, what it left, and what its
-- status shows
abbrev pub HadBackup : List RuleValue → Device → SidesTold → SidesTold → Status → Report → Type 0
HadBackup rules device before after status report =
    HadSession (BackupLeft device before after) (λ status report. BackupShows status)
    (backup_agenda rules device) before.palm after.palm status report

-- whatever is written of it
abbrev pub IsBackupTalk : List RuleValue → Device → SidesTold → SidesTold → Status → Report
    → Type 0
IsBackupTalk rules device before after status report =
    IsTalk (HadBackup rules device before after) before after status report

-- The script, the handheld and the folder for the files before it, all that is known of the
-- session, and what the trace took.
pub record BackupRan (words : Between) (before after : CallTold) (status : Status)
    (report : Report) : Type 0 where
  pub rules : List RuleValue
  pub scripted : IsScripted words.script before.source.left rules
  pub device : Device
  pub handheld : IfSome before.palm.contents (λ held. HoldsAll held device.databases device.user)
  pub closed : device.handles ≡ no_handles
  pub apart : StandsApart before.desk.contents
  pub had : HadBackup rules device (sides_of before) (sides_of after) status report
  pub traced : TakesTrace words.trace (trace_text (frames_in report)) before.trace after.trace
      status

-- ---- every backup

-- A good script and a kind line, good files of the handheld, a folder for the files that tells
-- those of no folder that is synchronised, and no object that failed.
pub record IsCalmBackup (words : Between) (before after : CallTold) (out out_after : SinkTold)
    (report : Report) : Type 0 where
  pub script : IsGoodScript words.script before.source.left
  pub line : (rules : List RuleValue) → IsScripted words.script before.source.left rules
      → IsKindScript rules (length (frames_in report))
  pub handheld : IsGoodHandheld before.palm.contents
  pub files : FileMap
  pub told : before.desk.contents ≡ Some files
  pub apart : is_synced files ≡ false
  pub none_failed : NoneFailed before after out out_after

-- a backup as a command: the script, both folders and the trace are judged, in this order
abbrev pub backup_command : Between → SessionCommand
backup_command words = record {
  paths = between_paths words;
  Judged = λ before refusal. BackupRefuses words before refusal;
  Kept = λ before after status. StaysAsItWas before after;
  Had = λ before after status report. BackupRan words before after status report;
  Undisturbed = λ before after out said report. IsCalmBackup words before after out said report;
}
