-- A restore that nothing disturbs is done whole.
use Rattle.std.proofs.Common.{◌≡◌, ◌⊎◌, ◌∙◌, ◌≤◌, List, ℕ, ap, arith, inl, inr, refl, subst, sym}
use Rattle.std.specs.Prelude.{IfSome, Option, string_bytes}
use Rattle.std.specs.FinMap as finmap
use Rattle.std.specs.declared.alloc.Global.{Global}
use Rattle.hs_folders.specs.FileMaps.{FileMap}
use Rattle.pdb_files.specs.declared.bad_kind.BadKind.{BadKind}
use Rattle.palm_device.specs.Devices.{most_databases}
use Rattle.backup_files.specs.BackupFolders.{IsFirstBadFile, IsFirstSame, ShowsBackupFault, backup_count}
use Rattle.backup_files.specs.declared.fault.BackupFault.{BackupFault}
use Rattle.backup_files.specs.declared.fault.BackupFault.TheVariants.{BadFile, Failed, NoMemory as NoMemoryFault, SameDatabase, TooMany}
use Rattle.run_words.specs.Betweens.{Between}
use Rattle.cmd_status.specs.FolderFaults.{backup_status}
use Rattle.cmd_status.specs.Printed.{IsPrinted}
use Rattle.cmd_status.specs.Told.{SinkTold}
use Rattle.call_parts.proofs.JudgedCalls.{refuses_none}
use Rattle.cmd_files.proofs.RestoreRuns.{restore_judged}
use Rattle.cmd_files.proofs.LoadWell.{load_well}
use Rattle.call_parts.proofs.WellLaws.{call_well}
use Rattle.cmd_files.specs.Restores.{BackupsRefuse, IsCalmRestore, IsGoodBackups, restore_command}
use Rattle.call_parts.specs.SessionCalls.{MayHaveSession}
use Rattle.call_parts.specs.Refusals.{IsDesktopFailure}
use Rattle.call_parts.specs.Told.{CallTold}
use Rattle.call_parts.specs.Undisturbed.{EndsWell}
use Rattle.call_parts.proofs.UndisturbedLaws.{judged_script, none_is_some}
use Rattle.call_parts.specs.declared.report.Report.{Report}
use Rattle.cmd_status.specs.declared.status.Status.{Status}

-- ---- what is judged before a session

-- good backups show no cause of a refusal
unshown_backups : (held : FileMap) (fault : BackupFault) → backup_count held ≤ most_databases
    → ((name : List ℕ) (kind : BadKind) (place : ℕ) → ¬ (IsFirstBadFile (finmap.keys held) held name kind place))
    → ((first second : List ℕ) → ¬ (IsFirstSame (finmap.keys held) held first second)) → ShowsBackupFault fault held → (fault ≡ Failed) ⊎ (fault ≡ NoMemoryFault)
unshown_backups held Failed few whole apart shown = inl refl
unshown_backups held NoMemoryFault few whole apart shown = inr refl
unshown_backups held TooMany few whole apart shown = absurd (omega (arith, few, shown))
unshown_backups held (BadFile name kind place) few whole apart shown = absurd (whole (string_bytes {Z = Global} name) kind place shown.1)
unshown_backups held (SameDatabase first second) few whole apart shown =
    absurd (apart (string_bytes {Z = Global} first) (string_bytes {Z = Global} second) shown.1)

-- so they are refused for no other cause than that of an object
judged_backups : {told : Option FileMap} {status : Status} → IsGoodBackups told → BackupsRefuse told status → IsDesktopFailure status
judged_backups good (inl failed) = failed
judged_backups {told} {status} good (inr shows) =
    elim (unshown_backups good.held shows.fault good.few good.whole good.apart
    (subst (λ (t : Option FileMap). IfSome t (ShowsBackupFault shows.fault)) good.is shows.shown)) [
      | inl failed ↦ inl (shows.is ∙ ap backup_status failed)
      | inr memory ↦ inr (inr (shows.is ∙ ap backup_status memory))
    ]

-- ---- a session

-- a restore that nothing disturbs is done whole
pub restore_ends_well : (words : Between) (before after : CallTold) (out out_after : SinkTold) (status : Status) (report : Report) {IsText : List ℕ → Type 0}
    → MayHaveSession (restore_command words) before after status report → IsPrinted IsText out out_after status
    → IsCalmRestore words before after out out_after report
    → EndsWell status report
restore_ends_well words before after out out_after status report has printed calm =
    call_well (restore_command words) before after has printed calm.none_failed
    (refuses_none (restore_judged words) before calm.handheld (judged_script words.script before.source.left calm.script) (judged_backups calm.backups))
    (λ blames ran. load_well ran.had (calm.line ran.rules ran.scripted)
    (λ name full. none_is_some (sym (calm.room ran.device ran.databases ran.handheld ran.backups) ∙ full)) blames)
