-- A backup whose both sides met, and how it ends.
use Rattle.std.proofs.Common.{refl, List, [], ◌∷◌, ℕ}
use Rattle.std.specs.Prelude.{Option, Ok, Err}
use Rattle.std.specs.Global.{Vec}
use Rattle.hs_folders.specs.FileMaps.{FileMap}
use Rattle.hs_folders.specs.Moments.{Moments}
use Rattle.pdb_values.specs.declared.head.DbHead.{DbHead}
use Rattle.session_parts.specs.Causes.{IsLater}
use Rattle.session_parts.specs.declared.stop.Stop.{Stop}
use Rattle.session_parts.specs.declared.stop.Stop.TheVariants as stop
use Rattle.session_parts.proofs.LinkWords.{Does, LinkFault, SessionFault, SessionValue, Stops, Talk, ending, text}
use Rattle.install_backup.specs.declared.moved.Moved.{Moved}
use Rattle.install_backup.specs.Backups.{KeepsSome}
use Rattle.install_backup.specs.BackupEnds.{BackupWent}

module _ {L F : Type 0} {talk : L → Option Talk} {since : L → L → Type 0} {fault : L → Option LinkFault} {downs : L → ℕ} {contents : F → Option FileMap} {moments : F → Moments}
    {heads : List DbHead} {old now : SessionValue L} {folder after : F} where
  pub met_ended : {moved : Vec Moved} (new : L) → KeepsSome talk since fault downs contents moments heads old now folder after (Ok moved)
      → Stops talk since fault downs (text ending ∷ []) now.link new → Does talk (ending ∷ []) now.link new
      → BackupWent talk since fault downs contents moments heads old folder (record { link = new; folder = after; end = Ok moved })
  met_ended {moved} new keeps stops does = record { answer = Ok moved; now = now; keeps = keeps; finishes = (stops, (does, refl)) }

  pub met_unended : {moved : Vec Moved} {cause : SessionFault} (new : L) → KeepsSome talk since fault downs contents moments heads old now folder after (Ok moved)
      → Stops talk since fault downs (text ending ∷ []) now.link new → IsLater (talk new) (fault new) cause
      → BackupWent talk since fault downs contents moments heads old folder (record { link = new; folder = after; end = Err (stop.Session cause) })
  met_unended {moved} new keeps stops later = record { answer = Ok moved; now = now; keeps = keeps; finishes = (stops, later) }

  pub met_stopped : {why : Stop} → KeepsSome talk since fault downs contents moments heads old now folder after (Err why)
      → BackupWent talk since fault downs contents moments heads old folder (record { link = now.link; folder = after; end = Err why })
  met_stopped {why} keeps = record { answer = Err why; now = now; keeps = keeps; finishes = (refl, refl) }
