-- A backup that nothing disturbs is done whole.
use Rattle.std.proofs.Common.{◌≡◌, List, ℕ, inl, inr, subst, true, false}
use Rattle.std.specs.Prelude.{IfSome, Option, Some}
use Rattle.hs_folders.specs.FileMaps.{FileMap}
use Rattle.run_words.specs.Betweens.{Between}
use Rattle.cmd_status.specs.Printed.{IsPrinted}
use Rattle.cmd_status.specs.Told.{SinkTold}
use Rattle.cmd_files.specs.Backups.{BackupShows, IsCalmBackup, backup_command}
use Rattle.cmd_files.proofs.BackupRuns.{backup_judged}
use Rattle.call_parts.proofs.JudgedCalls.{refuses_none}
use Rattle.call_parts.proofs.WellLaws.{IsOwnStop, call_well, session_well}
use Rattle.call_parts.specs.SessionCalls.{MayHaveSession}
use Rattle.call_parts.specs.Files.{FilesRefuse, is_synced}
use Rattle.call_parts.specs.Refusals.{IsDesktopFailure}
use Rattle.call_parts.specs.Told.{CallTold}
use Rattle.call_parts.specs.Undisturbed.{EndsWell}
use Rattle.call_parts.proofs.UndisturbedLaws.{judged_script}
use Rattle.call_parts.specs.declared.report.Report.{Report}
use Rattle.cmd_status.specs.declared.status.Status.{Status}
use Rattle.cmd_status.specs.declared.status.Status.TheVariants.{OtherUser, TooManyUsers, Limit, NewHandheld}

-- ---- what is judged before a session

both_sides : (told : Option FileMap) {files : FileMap} → told ≡ Some files → is_synced files ≡ false → IfSome told (λ files. is_synced files ≡ true) → ⊥
both_sides told is apart synced =
    let both = subst (λ (t : Option FileMap). IfSome t (λ files. is_synced files ≡ true)) is synced in cc

judged_files : (told : Option FileMap) {files : FileMap} {status : Status} → told ≡ Some files → is_synced files ≡ false → FilesRefuse told status
    → IsDesktopFailure status
judged_files told is apart (inl failed) = failed
judged_files told is apart (inr synced) = absurd (both_sides told is apart synced.synced)

-- ---- a session

-- it stops for nothing that it finds
finds_none : (status : Status) → BackupShows status → IsOwnStop status → ⊥
finds_none (OtherUser handheld desktop) shows own = shows
finds_none TooManyUsers shows own = shows
finds_none (Limit name) shows own = shows
finds_none (NewHandheld name) shows own = shows
finds_none _ shows own = own

-- a backup that nothing disturbs is done whole
pub backup_ends_well : (words : Between) (before after : CallTold) (out out_after : SinkTold) (status : Status) (report : Report) {IsText : List ℕ → Type 0}
    → MayHaveSession (backup_command words) before after status report → IsPrinted IsText out out_after status
    → IsCalmBackup words before after out out_after report
    → EndsWell status report
backup_ends_well words before after out out_after status report has printed calm =
    call_well (backup_command words) before after has printed calm.none_failed
    (refuses_none (backup_judged words) before calm.handheld (judged_script words.script before.source.left calm.script)
    (judged_files before.desk.contents calm.told calm.apart))
    (λ blames ran. session_well ran.had.spoke (calm.line ran.rules ran.scripted) blames (finds_none status ran.had.shows))
