-- What a session over a link leaves of the folder for its files, whatever the link tells.
use Rattle.std.proofs.Common.{◌≡◌, ◌∙◌, ℕ, List, [], ◌∷◌, Option, Some, None, Result, Ok, Err, ap, map, refl, subst, sym}
use Rattle.std.specs.Global.{Vec}
use Rattle.std.specs.Option.{option_map}
use Rattle.std.specs.Prelude.{IfOk}
use Rattle.hs_folders.specs.FileMaps.{FileMap}
use Rattle.hs_folders.specs.Moments.{Moments}
use Rattle.hs_folders.proofs.MomentLaws.{no_moment}
use Rattle.pdb_values.specs.Databases.{DatabaseValue}
use Rattle.desk_journal.specs.Overlays.{put_all}
use Rattle.dlp_commands.specs.Talks.{Talk}
use Rattle.dlp_commands.specs.declared.link.LinkFault.{LinkFault}
use Rattle.desktop_session.specs.declared.ending.Halted.{Halted}
use Rattle.session_parts.specs.declared.meeting.Met.{Met}
use Rattle.session_parts.specs.declared.report.DbReport.{DbReport}
use Rattle.session_parts.specs.declared.stop.Stop.{Stop}
use Rattle.install_backup.specs.declared.moved.MoveOutcome.{MoveOutcome}
use Rattle.install_backup.specs.declared.moved.Moved.{Moved}
use Rattle.install_backup.specs.Backups.{HasSome, kept_moved}
use Rattle.install_backup.specs.BackupEnds.{BackupRan, BacksUp, Finishes}
use Rattle.call_parts.specs.Closings.{left_databases, left_end}
use Rattle.call_parts.specs.Told.{folder_told}
use Rattle.call_parts.specs.declared.report.SessionEnd.TheVariants.{Ended}
use Rattle.cmd_files.specs.Backups.{backup_report}
use Rattle.cmd_files.specs.Moves.{TellsMoves, moved_report}
use Rattle.cmd_files.specs.declared.moved.Way.TheVariants.{ToFiles}
use Rattle.port_run.specs.declared.synced.CableReport.{CableReport}
use Rattle.port_files.specs.Backups.{KeepsRead}

-- ---- what is told

told-reports : (wholes : List DatabaseValue) → map (moved_report ToFiles) (map kept_moved wholes) ≡ map backup_report wholes
told-reports [] = refl
told-reports (whole ∷ wholes) = ap (λ (rest : List DbReport). backup_report whole ∷ rest) (told-reports wholes)

-- a session that ended told each database
pub record EndsSo (end : Result (Vec Moved) Stop) (answer : Result (Vec DbReport) Stop) : Type 0 where
  pub moved : Vec Moved
  pub end_is : end ≡ Ok moved
  pub told : left_databases answer ≡ map (moved_report ToFiles) moved.items

pub ends-so : (end : Result (Vec Moved) Stop) (answer : Result (Vec DbReport) Stop) → TellsMoves ToFiles end answer → left_end answer ≡ Ended
    → EndsSo end answer
ends-so (Ok moved) (Ok reports) told is = record { moved = moved; end_is = refl; told = told }
ends-so (Ok moved) (Err why) told is = absurd cc
ends-so (Err cause) (Ok reports) told is = absurd told
ends-so (Err cause) (Err why) told is = absurd cc

pub ok-says : {A E : Type 0} (answer : Result A E) {made : A} (P : A → Type 0) → answer ≡ Ok made → IfOk answer P → P made
ok-says (Ok one) {made} P is says = let same : one ≡ made = cc in subst P same says
ok-says (Err why) P is says = absurd cc

-- ---- the folder

none-put : (told : Option FileMap) → told ≡ option_map (put_all []) told
none-put None = refl
none-put (Some held) = refl

finished : {L : Type 0} (talk : L → Option Talk) (since : L → L → Type 0) (fault : L → Option LinkFault) (downs : L → ℕ) (now new : L)
    (kept told : Result (Vec Moved) Stop) {moved : Vec Moved} → Finishes talk since fault downs now new kept told → told ≡ Ok moved → kept ≡ Ok moved
finished talk since fault downs now new (Ok kept) (Ok told) goes is = let same = goes.1.1 in cc
finished talk since fault downs now new (Ok kept) (Err why) goes is = cc
finished talk since fault downs now new (Err why) told goes is = let same = goes.1 in cc

module _ {L F : Type 0} (talk : L → Option Talk) (since : L → L → Type 0) (fault : L → Option LinkFault) (downs : L → ℕ) (contents : F → Option FileMap)
    (moments : F → Moments) (paths : F → Option (List (List ℕ))) (faults : F → ℕ) (folder : F) (outcome : MoveOutcome L F)
    (answer : Result (Vec DbReport) Stop) {report : CableReport} (tells : TellsMoves ToFiles outcome.end answer) (end : report.end ≡ left_end answer)
    (databases : report.databases.items ≡ left_databases answer) where
  by_met : (met : Result (Met L) (Halted L)) → BacksUp talk since fault downs contents moments folder outcome met
      → KeepsRead (folder_told contents moments paths faults folder) (folder_told contents moments paths faults outcome.folder) report
  by_met (Ok met) went = record {
    wholes = went.keeps.wholes;
    files = went.keeps.files;
    each_moment = went.keeps.each_moment;
    told = λ ended.
        let it = ends-so outcome.end answer tells (sym end ∙ ended) in
        databases ∙ it.told
        ∙ ap (λ (moved : List Moved). map (moved_report ToFiles) moved)
        (ok-says went.answer (λ (moved : Vec Moved). moved.items ≡ map kept_moved went.keeps.wholes)
        (finished talk since fault downs went.now.link outcome.link went.answer outcome.end went.finishes it.end_is) went.keeps.told)
        ∙ told-reports went.keeps.wholes;
  }
  by_met (Err halted) is = record {
    wholes = [];
    files = ap (λ (left : MoveOutcome L F). contents left.folder) is ∙ none-put (contents folder);
    each_moment = no_moment (HasSome [] (contents folder)) (moments folder) (moments outcome.folder) (ap (λ (left : MoveOutcome L F). moments left.folder) is);
    told = λ ended.
        let it = ends-so outcome.end answer tells (sym end ∙ ended) in
        let was = ap (λ (left : MoveOutcome L F). left.end) is in
        let both = sym it.end_is ∙ was in
        absurd (let never : ⊥ = cc in never);
  }

  pub keeps_read : {old : L} → BackupRan talk since fault downs contents moments old folder outcome
      → KeepsRead (folder_told contents moments paths faults folder) (folder_told contents moments paths faults outcome.folder) report
  keeps_read ran = by_met ran.met ran.backs_up
