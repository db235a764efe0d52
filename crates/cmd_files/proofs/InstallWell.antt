-- An install that nothing disturbs is done whole.
use Rattle.std.proofs.Common.{◌≡◌, ◌⊎◌, ℕ, List, [], ◌∷◌, inl, inr, refl, subst, arith, length}
use Rattle.std.specs.Prelude.{IfSome, Option, Some, false, true}
use Rattle.pdb_values.specs.Databases.{DatabaseValue}
use Rattle.pdb_values.specs.Heads.{is_read_only}
use Rattle.pdb_files.proofs.FileLaws.{one_database}
use Rattle.run_words.specs.Betweens.{Between}
use Rattle.install_backup.specs.InstallActs.{is_installable}
use Rattle.install_backup.specs.InstallEnds.{first_full}
use Rattle.install_backup.specs.Rooms.{has_room}
use Rattle.hotsync_looks.proofs.LookLaws.{file_not_broken}
use Rattle.hotsync_looks.specs.InstallFiles.{FileRefuses, FileShows, IsInstallFile}
use Rattle.cmd_status.specs.Printed.{IsPrinted}
use Rattle.cmd_status.specs.Told.{SinkTold}
use Rattle.cmd_files.specs.Installs.{InstallRan, IsCalmInstall, install_command}
use Rattle.cmd_files.proofs.InstallLaws.{full_of}
use Rattle.cmd_files.proofs.InstallRuns.{install_judged}
use Rattle.call_parts.proofs.JudgedCalls.{refuses_none}
use Rattle.cmd_files.proofs.LoadWell.{load_well}
use Rattle.call_parts.proofs.WellLaws.{call_well, kind_line}
use Rattle.call_parts.specs.SessionCalls.{MayHaveSession}
use Rattle.call_parts.specs.LineRuns.{frames_in}
use Rattle.call_parts.specs.Told.{CallTold}
use Rattle.call_parts.specs.Undisturbed.{EndsWell}
use Rattle.call_parts.specs.declared.report.Report.{Report}
use Rattle.cmd_status.specs.declared.status.Status.{Status}
use Rattle.cmd_status.specs.declared.status.Status.TheVariants.{BadFile, CannotInstall, TooLong, SourceRead}
use Rattle.cmd_status.specs.declared.status.Status.TheVariants.{NoMemory}

-- ---- what is judged before a session

writable_both : {database other : DatabaseValue} → database ≡ other → is_read_only database.head.attributes ≡ false
    → is_read_only other.head.attributes ≡ true → ⊥
writable_both same writable locked = let both = subst (λ (d : DatabaseValue). is_read_only d.head.attributes ≡ false) same writable in cc

-- the bytes of a file that may be installed show no cause of a refusal
unshown_file : (path : List ℕ) {bytes : List ℕ} {database : DatabaseValue} (refusal : Status) → IsInstallFile bytes database → FileShows path refusal bytes
    → (refusal ≡ SourceRead) ⊎ (refusal ≡ NoMemory)
unshown_file path SourceRead is shown = inl refl
unshown_file path NoMemory is shown = inr refl
unshown_file path TooLong is shown = let short = is.short in absurd (omega (arith, short, shown))
unshown_file path (BadFile side name kind place) is shown = absurd (file_not_broken is.file shown.3)
unshown_file path {bytes} {database} (CannotInstall name) is shown =
    absurd (writable_both (one_database bytes database shown.database is.file shown.file) is.writable shown.locked)
unshown_file path _ is shown = absurd shown

judged_file : {path : List ℕ} (left : Option (List ℕ)) {bytes : List ℕ} {database : DatabaseValue} {refusal : Status} → left ≡ Some bytes
    → IsInstallFile bytes database → FileRefuses path left refusal → (refusal ≡ SourceRead) ⊎ (refusal ≡ NoMemory)
judged_file {path} left {bytes} {database} {refusal} told is refuses =
    unshown_file path refusal is (subst (λ (t : Option (List ℕ)). IfSome t (FileShows path refusal)) told refuses.shown)

-- ---- a session

module _ (words : Between) {before after : CallTold} {out out_after : SinkTold} {status : Status} (report : Report)
    (calm : IsCalmInstall before after out out_after) where
  -- the file holds the database that was installed
  same_database : (ran : InstallRan words before after status report) → ran.database ≡ calm.database
  same_database ran =
      let file = subst (λ (t : Option (List ℕ)). IfSome t (λ bytes. IsInstallFile bytes ran.database)) calm.told ran.file in
      one_database calm.bytes ran.database calm.database file.file calm.file.file

  had_room : (ran : InstallRan words before after status report) (name : List ℕ)
      → first_full (ran.database ∷ []) ran.device.databases ≡ Some name → ⊥
  had_room ran name some =
      let full = subst (λ (d : DatabaseValue). has_room d.head.name ran.device.databases ≡ false) (same_database ran)
      (full_of (is_installable ran.database) (has_room ran.database.head.name ran.device.databases) ran.database.head.name name some) in
      let room = calm.room ran.device ran.handheld in cc

-- an install that nothing disturbs is done whole
pub install_ends_well : (words : Between) (before after : CallTold) (out out_after : SinkTold) (status : Status) (report : Report) {IsText : List ℕ → Type 0}
    → MayHaveSession (install_command words) before after status report → IsPrinted IsText out out_after status
    → IsCalmInstall before after out out_after
    → EndsWell status report
install_ends_well words before after out out_after status report has printed calm =
    call_well (install_command words) before after has printed calm.none_failed
    (refuses_none (install_judged words) before calm.handheld (judged_file before.source.left calm.told calm.file) (λ refuses. absurd refuses))
    (λ blames ran. load_well ran.had (kind_line (length (frames_in report))) (had_room words report calm ran) blames)
