-- What is known of a backup, by how it is judged and by its session, whatever is printed of it.
use Rattle.std.proofs.lemmas.Grind.{common_steps}
use Rattle.std.proofs.Common.{◌≡◌, arith, inl, inr, refl, sym, subst}
use Rattle.std.specs.Option.{option_map}
use Rattle.std.specs.Prelude.{List, Option, map}
use Rattle.hs_folders.specs.FileMaps.{FileMap}
use Rattle.hs_folders.specs.Moments.{EachMomentSince, Moments}
use Rattle.desk_journal.specs.Overlays.{put_all}
use Rattle.palm_device.specs.Devices.{Device}
use Rattle.handheld_files.specs.Openings.{Stands}
use Rattle.line_script.specs.Rules.{RuleValue}
use Rattle.install_backup.specs.Backups.{HasSome}
use Rattle.run_words.specs.Betweens.{Between}
use Rattle.cmd_status.specs.Told.{SinkTold}
use Rattle.cmd_files.specs.Backups.{BackupLeft, BackupRan, IsBackupTalk, KeepsFiles, backup_command, backup_file, backup_judges}
use Rattle.call_parts.specs.SessionCalls.{MayHaveSession, between_paths}
use Rattle.call_parts.specs.Files.{FilesRefuse, StandsApart}
use Rattle.call_parts.specs.Scripts.{IsScripted}
use Rattle.call_parts.specs.Stays.{StaysAsItWas}
use Rattle.call_parts.specs.Told.{CallTold, FolderTold, SidesTold, sides_of}
use Rattle.call_parts.specs.Traces.{TracesReport}
use Rattle.cmd_files.proofs.BackupSpoke.{backup_retold}
use Rattle.call_parts.proofs.JudgedCalls.{IsJudged, never_done, of_script}
use Rattle.call_parts.proofs.OpenedCalls.{AreOpened, both_told, by_session}
use Rattle.call_parts.proofs.CallPrinted.{IsPrintable}
use Rattle.call_parts.proofs.EarlierLaws.{spoke_from}
use Rattle.call_parts.proofs.RefusalLaws.{IsDesktopAlone, desktop_failed, stays_same}
use Rattle.call_parts.proofs.RetoldLaws.{StaysShown}
use Rattle.call_parts.proofs.RetoldCalls.{retold_done, retold_served, traced_as}
use Rattle.call_parts.proofs.TraceLaws.{traced_from}
use Rattle.call_parts.specs.declared.report.Report.{Report}
use Rattle.cmd_status.specs.declared.status.Status.{Status}
use Rattle.cmd_status.specs.declared.status.Status.TheVariants.{NotBackupFolder}

-- ---- how it is judged

synced_alone : IsDesktopAlone NotBackupFolder
synced_alone = grind (arith, common_steps)

-- a refusal of the folder for the files is no other one
files_alone : (kept : Option FileMap) (refusal : Status) → FilesRefuse kept refusal → IsDesktopAlone refusal
files_alone kept refusal (inl failed) = desktop_failed refusal failed
files_alone kept refusal (inr synced) = subst IsDesktopAlone (sym synced.is) synced_alone

pub backup_judged : (words : Between) → IsJudged (backup_command words) (backup_judges words)
backup_judged words = record {
  refuses = λ before refusal is. is;
  judged = λ before refusal is. is;
  source = λ left refusal refuses. of_script refusal refuses.is;
  folder = files_alone;
  kept = λ told refusal. stays_same refl;
}

-- ---- its session

-- what a session left, told from an earlier time on
files_from : {device : Device} {first before after : FolderTold} {report : Report} → StaysAsItWas first before → KeepsFiles device before after report
    → KeepsFiles device first after report
files_from {first = first} {before} {after} stays files = record {
  kept = files.kept;
  later = files.later;
  parts = files.parts;
  files = subst (λ (t : Option FileMap). after.contents ≡ option_map (put_all (map backup_file files.kept)) t) stays.contents files.files;
  each_moment = subst (λ (t : Option FileMap). EachMomentSince (HasSome (map backup_file files.kept) t) first.moments after.moments) stays.contents
      (subst (λ (m : Moments). EachMomentSince (HasSome (map backup_file files.kept) before.contents) m after.moments) stays.moments files.each_moment);
  behind = files.behind;
  no_more = files.no_more;
  all = files.all;
}

left_from : {device : Device} {first before after : SidesTold} {report : Report} → StaysAsItWas first.palm before.palm → StaysAsItWas first.desk before.desk
    → BackupLeft device before after report → BackupLeft device first after report
left_from {device} {first} {before} {after} palm desk left = record {
  files = files_from desk left.files;
  handheld = record {
    stands = left.handheld.stands;
    each_moment = subst (λ (m : Moments). EachMomentSince (λ told. Stands told device.databases device.user) m after.palm.moments) palm.moments
        left.handheld.each_moment;
    writes = left.handheld.writes;
  };
  ended = left.ended;
}

-- a backup with a session
pub by_backup : {words : Between} (before after : CallTold) {palm desk : FolderTold} {trace : SinkTold} {rules : List RuleValue} {device : Device}
    {status : Status} {report : Report} → AreOpened (between_paths words) before after.source palm desk trace device
    → IsScripted words.script before.source.left rules → StandsApart before.desk.contents → StaysAsItWas before.desk desk
    → IsBackupTalk rules device (both_told palm desk) (sides_of after) status report → TracesReport words.trace report trace after.trace status
    → MayHaveSession (backup_command words) before after status report
by_backup {words} before after {palm} {desk} {rules = rules} {device} opened scripted apart stays talk traced =
    by_session (backup_command words) before after opened (λ same memory. subst (StaysAsItWas before.desk) (sym same) stays) talk traced
    (λ had. had.spoke.why.ends) (λ had. record {
      rules = rules;
      scripted = scripted;
      device = device;
      handheld = opened.handheld;
      closed = opened.closed;
      apart = apart;
      had = record {
        spoke = spoke_from opened.palm_stays had.spoke;
        left = left_from {first = sides_of before} {before = both_told palm desk} {after = sides_of after} opened.palm_stays stays had.left;
        shows = had.shows;
      };
      traced = traced_from before.trace opened.trace_taken opened.trace_later traced.traced;
    })

-- ---- whatever is printed of it

ran_retold : (words : Between) (before after : CallTold) → StaysShown (BackupRan words before after)
ran_retold words before after status other report is ran = record {
  rules = ran.rules;
  scripted = ran.scripted;
  device = ran.device;
  handheld = ran.handheld;
  closed = ran.closed;
  apart = ran.apart;
  had = backup_retold ran.rules ran.device (sides_of before) (sides_of after) status other report is ran.had;
  traced = traced_as other (retold_done other is) (retold_served other is) ran.traced;
}

pub backup_printable : (words : Between) → IsPrintable (backup_command words)
backup_printable words = record {
  not_done = never_done (backup_judged words);
  kept = λ before after status kept. kept;
  stays = λ before after. ran_retold words before after;
}
