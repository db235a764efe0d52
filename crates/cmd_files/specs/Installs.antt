-- What holds of every install: all objects before it, and all of them after it.
use Rattle.std.specs.Prelude.{◌≡◌, ⊤, ℕ, true, false, List, [], ◌∷◌, map, Option, None, Some, IfSome}
use Rattle.pdb_values.specs.Databases.{DatabaseValue}
use Rattle.pdb_values.specs.Heads.{is_read_only}
use Rattle.palm_device.specs.Devices.{Device}
use Rattle.palm_device.specs.Handles.{no_handles}
use Rattle.handheld_files.specs.Openings.{HoldsAll, Stands}
use Rattle.trace_text.specs.TraceLines.{trace_text}
use Rattle.desktop_session.specs.Acts.{text}
use Rattle.session_parts.specs.declared.report.DbReport.{DbReport}
use Rattle.session_parts.specs.declared.report.Did.TheVariants.{Installed}
use Rattle.install_backup.specs.Installed.{with_installed}
use Rattle.install_backup.specs.InstallActs.{install_acts, install_mark, written_count}
use Rattle.install_backup.specs.Marks.{marked_user}
use Rattle.install_backup.specs.Rooms.{has_room}
use Rattle.run_words.specs.Betweens.{Between}
use Rattle.hotsync_looks.specs.InstallFiles.{FileRefuses, IsInstallFile}
use Rattle.cmd_status.specs.Told.{SinkTold}
use Rattle.cmd_status.specs.declared.status.Status.{Status}
use Rattle.call_parts.specs.Judges.{Judges, Refuses}
use Rattle.cmd_files.specs.Loads.{HadLoad}
use Rattle.call_parts.specs.LineRuns.{SaidAll, frames_in}
use Rattle.call_parts.specs.SessionCalls.{Paths, SessionCommand}
use Rattle.call_parts.specs.Told.{CallTold, FolderTold}
use Rattle.call_parts.specs.Traces.{TakesTrace}
use Rattle.call_parts.specs.Undisturbed.{IsGoodHandheld, NoneFailed}
use Rattle.call_parts.specs.declared.report.Report.{Report}

-- ---- an install that sent nothing

-- the source tells no other bytes than those of a database that may be installed
pub record HasInstallFile (left : Option (List ℕ)) : Type 0 where
  pub database : DatabaseValue
  pub file : IfSome left (λ bytes. IsInstallFile bytes database)

-- the file is judged, and no other folder
abbrev pub install_judges : Between → Judges
install_judges words = record {
  SourceRefuses = λ left refusal. FileRefuses words.other left refusal;
  HasSource = λ left. HasInstallFile left;
  FolderRefuses = λ kept refusal. ⊥;
  HasFolder = λ kept. ⊤;
}

-- it, the handheld's folder and the trace behind it
abbrev pub InstallRefuses : Between → CallTold → Status → Type 0
InstallRefuses words before refusal = Refuses (install_judges words) words.trace before refusal

-- ---- an install with a session

-- what is told of it: how many of its entries were installed
abbrev pub install_report : DatabaseValue → DbReport
install_report database =
    record { name = database.head.name; did = Installed (written_count database) }

-- It ended: each of its requests was issued and performed, and none else; the handheld's folder
-- stands for its databases with the file's in place of the one of its name, and for its user with
-- the mark; and that is told.
pub record EndedInstall (device : Device) (database : DatabaseValue) (palm_after : FolderTold)
    (report : Report) : Type 0 where
  pub room : has_room database.head.name device.databases ≡ true
  pub said : SaidAll
      (map text (install_acts (install_mark database) device.user (database ∷ []))) report
  pub handheld : Stands palm_after.contents (with_installed database device.databases)
      (marked_user (install_mark database) device.user)
  pub told : report.databases.items ≡ install_report database ∷ []

-- The file, which is no read-only one, and the handheld before it, all that is known of the session
-- over a line that loses nothing, and what the trace took. The desktop's folder was not touched.
pub record InstallRan (words : Between) (before after : CallTold) (status : Status)
    (report : Report) : Type 0 where
  pub database : DatabaseValue
  pub file : IfSome before.source.left (λ bytes. IsInstallFile bytes database)
  pub writable : is_read_only database.head.attributes ≡ false
  pub device : Device
  pub handheld : IfSome before.palm.contents (λ held. HoldsAll held device.databases device.user)
  pub closed : device.handles ≡ no_handles
  pub had : HadLoad [] (install_mark database) device (database ∷ []) before.palm after.palm status
      report
  pub desktop : after.desk ≡ before.desk
  pub traced : TakesTrace words.trace (trace_text (frames_in report)) before.trace after.trace
      status

-- ---- every install

-- The source tells the file of a database that may be installed, the handheld's files are good and
-- have room for it, and no object failed.
pub record IsCalmInstall (before after : CallTold) (out out_after : SinkTold) : Type 0 where
  pub bytes : List ℕ
  pub told : before.source.left ≡ Some bytes
  pub database : DatabaseValue
  pub file : IsInstallFile bytes database
  pub handheld : IsGoodHandheld before.palm.contents
  pub room : (device : Device)
      → IfSome before.palm.contents (λ held. HoldsAll held device.databases device.user)
      → has_room database.head.name device.databases ≡ true
  pub none_failed : NoneFailed before after out out_after

-- the paths of an install's words
abbrev pub install_paths : Between → Paths
install_paths words = record {
  handheld = Some words.handheld;
  desktop = None;
  source = Some words.other;
  trace = words.trace;
}

-- an install as a command: the file, the handheld's folder and the trace are judged, in this order
abbrev pub install_command : Between → SessionCommand
install_command words = record {
  paths = install_paths words;
  Judged = λ before refusal. InstallRefuses words before refusal;
  Kept = λ before after status. after ≡ before;
  Had = λ before after status report. InstallRan words before after status report;
  Undisturbed = λ before after out said report. IsCalmInstall before after out said;
}
