-- What is known of an install, by how it is judged and by its session, whatever is printed of it.
use Rattle.std.proofs.Common.{◌≡◌, arith, refl, [], ◌∷◌}
use Rattle.std.specs.Prelude.{IfSome, false}
use Rattle.palm_device.specs.Devices.{Device}
use Rattle.pdb_values.specs.Databases.{DatabaseValue}
use Rattle.pdb_values.specs.Heads.{is_read_only}
use Rattle.install_backup.specs.InstallActs.{install_mark}
use Rattle.run_words.specs.Betweens.{Between}
use Rattle.hotsync_looks.specs.InstallFiles.{IsFileRefusal, IsInstallFile}
use Rattle.cmd_status.specs.Told.{SinkTold}
use Rattle.cmd_files.specs.Installs.{InstallRan, install_command, install_judges, install_paths}
use Rattle.cmd_files.specs.Loads.{IsLoadTalk}
use Rattle.call_parts.specs.SessionCalls.{MayHaveSession}
use Rattle.call_parts.specs.Told.{CallTold, FolderTold, sides_of}
use Rattle.call_parts.specs.Traces.{TracesReport}
use Rattle.call_parts.proofs.JudgedCalls.{IsJudged, IsSourceAlone, never_done}
use Rattle.cmd_files.proofs.LoadSpoke.{load_from, load_retold}
use Rattle.call_parts.proofs.OpenedCalls.{AreOpened, both_told, by_session}
use Rattle.call_parts.proofs.CallPrinted.{IsPrintable}
use Rattle.call_parts.proofs.RetoldLaws.{StaysShown}
use Rattle.call_parts.proofs.RetoldCalls.{retold_done, retold_served, traced_as}
use Rattle.call_parts.proofs.TraceLaws.{traced_from}
use Rattle.call_parts.specs.declared.report.Report.{Report}
use Rattle.cmd_status.specs.declared.status.Status.{Status}

-- ---- how it is judged

-- a refusal of a file is no other one
file_alone : (refusal : Status) → IsFileRefusal refusal → IsSourceAlone refusal
file_alone refusal is = grind arith

pub install_judged : (words : Between) → IsJudged (install_command words) (install_judges words)
install_judged words = record {
  refuses = λ before refusal is. is;
  judged = λ before refusal is. is;
  source = λ left refusal refuses. file_alone refusal refuses.is;
  folder = λ kept refusal refuses. absurd refuses;
  kept = λ told refusal. refl;
}

-- ---- its session

-- an install with a session
pub by_install : {words : Between} (before after : CallTold) {palm : FolderTold} {trace : SinkTold} {device : Device} {database : DatabaseValue}
    {status : Status} {report : Report} → AreOpened (install_paths words) before after.source palm before.desk trace device
    → IfSome before.source.left (λ bytes. IsInstallFile bytes database) → is_read_only database.head.attributes ≡ false → after.desk ≡ before.desk
    → IsLoadTalk [] (install_mark database) device (database ∷ []) (both_told palm before.desk) (sides_of after) status report
    → TracesReport words.trace report trace after.trace status → MayHaveSession (install_command words) before after status report
by_install {words} before after {device = device} {database} opened file writable same talk traced =
    by_session (install_command words) before after opened (λ same memory. same) talk traced (λ had. had.spoke.why.ends) (λ had. record {
      database = database;
      file = file;
      writable = writable;
      device = device;
      handheld = opened.handheld;
      closed = opened.closed;
      had = load_from opened.palm_stays had;
      desktop = same;
      traced = traced_from before.trace opened.trace_taken opened.trace_later traced.traced;
    })

-- ---- whatever is printed of it

ran_retold : (words : Between) (before after : CallTold) → StaysShown (InstallRan words before after)
ran_retold words before after status other report is ran = record {
  database = ran.database;
  file = ran.file;
  writable = ran.writable;
  device = ran.device;
  handheld = ran.handheld;
  closed = ran.closed;
  had = load_retold [] (install_mark ran.database) ran.device (ran.database ∷ []) before.palm after.palm status other report is ran.had;
  desktop = ran.desktop;
  traced = traced_as other (retold_done other is) (retold_served other is) ran.traced;
}

pub install_printable : (words : Between) → IsPrintable (install_command words)
install_printable words = record {
  not_done = never_done (install_judged words);
  kept = λ before after status kept. kept;
  stays = λ before after. ran_retold words before after;
}
