-- What is known of a restore, by how it is judged and by its session, whatever is printed of it.
use Rattle.std.proofs.lemmas.Grind.{common_steps}
use Rattle.std.proofs.Common.{◌≡◌, arith, inl, inr, refl, sym, subst}
use Rattle.std.specs.Prelude.{IfSome, List, Option}
use Rattle.hs_folders.specs.FileMaps.{FileMap}
use Rattle.palm_device.specs.Devices.{Device}
use Rattle.pdb_values.specs.Databases.{DatabaseValue}
use Rattle.backup_files.specs.BackupFolders.{HoldsBackups}
use Rattle.backup_files.specs.declared.fault.BackupFault.{BackupFault}
use Rattle.line_script.specs.Rules.{RuleValue}
use Rattle.install_backup.specs.InstallActs.{restore_mark}
use Rattle.run_words.specs.Betweens.{Between}
use Rattle.cmd_status.specs.FolderFaults.{backup_status}
use Rattle.cmd_status.specs.Told.{SinkTold}
use Rattle.cmd_files.specs.Loads.{IsLoadTalk}
use Rattle.cmd_files.specs.Restores.{BackupsRefuse, RestoreRan, restore_command, restore_judges}
use Rattle.call_parts.specs.SessionCalls.{MayHaveSession, between_paths}
use Rattle.call_parts.specs.Scripts.{IsScripted}
use Rattle.call_parts.specs.Stays.{StaysAsItWas}
use Rattle.call_parts.specs.Told.{CallTold, FolderTold, sides_of}
use Rattle.call_parts.specs.Traces.{TracesReport}
use Rattle.call_parts.proofs.JudgedCalls.{IsJudged, never_done, of_script}
use Rattle.cmd_files.proofs.LoadSpoke.{load_from, load_retold}
use Rattle.call_parts.proofs.OpenedCalls.{AreOpened, both_told, by_session}
use Rattle.call_parts.proofs.CallPrinted.{IsPrintable}
use Rattle.call_parts.proofs.RefusalLaws.{IsDesktopAlone, desktop_failed, stays_same}
use Rattle.call_parts.proofs.RetoldLaws.{StaysShown}
use Rattle.call_parts.proofs.RetoldCalls.{retold_done, retold_served, traced_as}
use Rattle.call_parts.proofs.TraceLaws.{traced_from}
use Rattle.call_parts.specs.declared.report.Report.{Report}
use Rattle.cmd_status.specs.declared.status.Status.{Status}

-- ---- how it is judged

backup_cases : (fault : BackupFault) → IsDesktopAlone (backup_status fault)
backup_cases fault = grind (arith, common_steps)

-- a refusal of the folder of backups is no other one
backups_alone : (kept : Option FileMap) (refusal : Status) → BackupsRefuse kept refusal → IsDesktopAlone refusal
backups_alone kept refusal (inl failed) = desktop_failed refusal failed
backups_alone kept refusal (inr shows) = subst IsDesktopAlone (sym shows.is) (backup_cases shows.fault)

pub restore_judged : (words : Between) → IsJudged (restore_command words) (restore_judges words)
restore_judged words = record {
  refuses = λ before refusal is. is;
  judged = λ before refusal is. is;
  source = λ left refusal refuses. of_script refusal refuses.is;
  folder = backups_alone;
  kept = λ told refusal. stays_same refl;
}

-- ---- its session

-- a restore with a session
pub by_restore : {words : Between} (before after : CallTold) {palm desk : FolderTold} {trace : SinkTold} {rules : List RuleValue} {device : Device}
    {databases : List DatabaseValue} {status : Status} {report : Report} → AreOpened (between_paths words) before after.source palm desk trace device
    → IsScripted words.script before.source.left rules → IfSome before.desk.contents (λ held. HoldsBackups held databases) → StaysAsItWas before.desk desk
    → after.desk ≡ desk → IsLoadTalk rules (restore_mark databases) device databases (both_told palm desk) (sides_of after) status report
    → TracesReport words.trace report trace after.trace status → MayHaveSession (restore_command words) before after status report
by_restore {words} before after {rules = rules} {device} {databases} opened scripted backups stays same talk traced =
    by_session (restore_command words) before after opened (λ same memory. subst (StaysAsItWas before.desk) (sym same) stays) talk traced
    (λ had. had.spoke.why.ends) (λ had. record {
      rules = rules;
      scripted = scripted;
      device = device;
      handheld = opened.handheld;
      closed = opened.closed;
      databases = databases;
      backups = backups;
      had = load_from opened.palm_stays had;
      desktop = subst (StaysAsItWas before.desk) (sym same) stays;
      traced = traced_from before.trace opened.trace_taken opened.trace_later traced.traced;
    })

-- ---- whatever is printed of it

ran_retold : (words : Between) (before after : CallTold) → StaysShown (RestoreRan words before after)
ran_retold words before after status other report is ran = record {
  rules = ran.rules;
  scripted = ran.scripted;
  device = ran.device;
  handheld = ran.handheld;
  closed = ran.closed;
  databases = ran.databases;
  backups = ran.backups;
  had = load_retold ran.rules (restore_mark ran.databases) ran.device ran.databases before.palm after.palm status other report is ran.had;
  desktop = ran.desktop;
  traced = traced_as other (retold_done other is) (retold_served other is) ran.traced;
}

pub restore_printable : (words : Between) → IsPrintable (restore_command words)
restore_printable words = record {
  not_done = never_done (restore_judged words);
  kept = λ before after status kept. kept;
  stays = λ before after. ran_retold words before after;
}
