-- What holds of every restore: all objects before it, and all of them after it.
use Rattle.std.specs.Prelude.{◌≡◌, ◌⊎◌, ◌≤◌, ℕ, List, length, Option, None, Some, IfSome}
use Rattle.std.specs.FinMap as finmap
use Rattle.hs_folders.specs.FileMaps.{FileMap}
use Rattle.pdb_values.specs.Databases.{DatabaseValue}
use Rattle.pdb_files.specs.declared.bad_kind.BadKind.{BadKind}
use Rattle.palm_device.specs.Devices.{Device, most_databases}
use Rattle.palm_device.specs.Handles.{no_handles}
use Rattle.handheld_files.specs.Openings.{HoldsAll}
use Rattle.backup_files.specs.BackupFolders.{HoldsBackups, IsFirstBadFile, IsFirstSame, ShowsBackupFault, backup_count}
use Rattle.backup_files.specs.declared.fault.BackupFault.{BackupFault}
use Rattle.trace_text.specs.TraceLines.{trace_text}
use Rattle.line_script.specs.Rules.{RuleValue}
use Rattle.install_backup.specs.InstallActs.{restore_mark}
use Rattle.install_backup.specs.InstallEnds.{first_full}
use Rattle.run_words.specs.Betweens.{Between}
use Rattle.cmd_status.specs.FolderFaults.{backup_status}
use Rattle.cmd_status.specs.Told.{SinkTold}
use Rattle.cmd_status.specs.declared.status.Status.{Status}
use Rattle.call_parts.specs.Judges.{Judges, Refuses}
use Rattle.cmd_files.specs.Loads.{HadLoad}
use Rattle.call_parts.specs.LineRuns.{frames_in}
use Rattle.call_parts.specs.Refusals.{IsDesktopFailure}
use Rattle.call_parts.specs.Scripts.{HasScript, IsScripted, ScriptRefuses}
use Rattle.call_parts.specs.SessionCalls.{SessionCommand, between_paths}
use Rattle.call_parts.specs.Stays.{StaysAsItWas}
use Rattle.call_parts.specs.Told.{CallTold}
use Rattle.call_parts.specs.Traces.{TakesTrace}
use Rattle.call_parts.specs.Undisturbed.{IsGoodHandheld, IsGoodScript, IsKindScript, NoneFailed}
use Rattle.call_parts.specs.declared.report.Report.{Report}

-- ---- a restore that sent nothing

-- the folder of backups shows why its files were not read
pub record BackupsShow (kept : Option FileMap) (refusal : Status) : Type 0 where
  pub fault : BackupFault
  pub is : refusal ≡ backup_status fault
  pub shown : IfSome kept (ShowsBackupFault fault)

-- the folder of backups was not read
abbrev pub BackupsRefuse : Option FileMap → Status → Type 0
BackupsRefuse kept refusal = IsDesktopFailure refusal ⊎ BackupsShow kept refusal

-- the files of the folder hold databases, each under a name of its own
pub record HasBackups (kept : Option FileMap) : Type 0 where
  pub databases : List DatabaseValue
  pub holds : IfSome kept (λ held. HoldsBackups held databases)

-- the script is judged, and the folder of backups
abbrev pub restore_judges : Between → Judges
restore_judges words = record {
  SourceRefuses = λ left refusal. ScriptRefuses words.script left refusal;
  HasSource = λ left. HasScript words.script left;
  FolderRefuses = λ kept refusal. BackupsRefuse kept refusal;
  HasFolder = λ kept. HasBackups kept;
}

-- they, the handheld's folder between them, and the trace behind them
abbrev pub RestoreRefuses : Between → CallTold → Status → Type 0
RestoreRefuses words before refusal = Refuses (restore_judges words) words.trace before refusal

-- ---- a restore with a session

-- The script, the handheld and the databases of the folder before it, all that is known of the
-- session, and what the trace took. The folder was only read.
pub record RestoreRan (words : Between) (before after : CallTold) (status : Status)
    (report : Report) : Type 0 where
  pub rules : List RuleValue
  pub scripted : IsScripted words.script before.source.left rules
  pub device : Device
  pub handheld : IfSome before.palm.contents (λ held. HoldsAll held device.databases device.user)
  pub closed : device.handles ≡ no_handles
  pub databases : List DatabaseValue
  pub backups : IfSome before.desk.contents (λ held. HoldsBackups held databases)
  pub had : HadLoad rules (restore_mark databases) device databases before.palm after.palm status
      report
  pub desktop : StaysAsItWas before.desk after.desk
  pub traced : TakesTrace words.trace (trace_text (frames_in report)) before.trace after.trace
      status

-- ---- every restore

-- the folder of backups tells its files: there are not too many of databases, none is bad, and no
-- two hold databases of one name
pub record IsGoodBackups (told : Option FileMap) : Type 0 where
  pub held : FileMap
  pub is : told ≡ Some held
  pub few : backup_count held ≤ most_databases
  pub whole : (name : List ℕ) (kind : BadKind) (place : ℕ)
      → ¬ (IsFirstBadFile (finmap.keys held) held name kind place)
  pub apart : (first second : List ℕ) → ¬ (IsFirstSame (finmap.keys held) held first second)

-- A good script and a kind line, good files of the handheld and good backups, for all of which the
-- handheld has room, and no object that failed.
pub record IsCalmRestore (words : Between) (before after : CallTold) (out out_after : SinkTold)
    (report : Report) : Type 0 where
  pub script : IsGoodScript words.script before.source.left
  pub line : (rules : List RuleValue) → IsScripted words.script before.source.left rules
      → IsKindScript rules (length (frames_in report))
  pub handheld : IsGoodHandheld before.palm.contents
  pub backups : IsGoodBackups before.desk.contents
  pub room : (device : Device) (databases : List DatabaseValue)
      → IfSome before.palm.contents (λ held. HoldsAll held device.databases device.user)
      → IfSome before.desk.contents (λ held. HoldsBackups held databases)
      → first_full databases device.databases ≡ None
  pub none_failed : NoneFailed before after out out_after

-- a restore as a command: the script, both folders and the trace are judged, in this order
abbrev pub restore_command : Between → SessionCommand
restore_command words = record {
  paths = between_paths words;
  Judged = λ before refusal. RestoreRefuses words before refusal;
  Kept = λ before after status. StaysAsItWas before after;
  Had = λ before after status report. RestoreRan words before after status report;
  Undisturbed = λ before after out said report. IsCalmRestore words before after out said report;
}
