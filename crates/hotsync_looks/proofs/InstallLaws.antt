-- What the bytes of a file that is to be installed show of its refusal.
use Rattle.std.proofs.Common.{◌≡◌, ◌≤◌, ℕ, List, length, Some, Err}
use Rattle.pdb_values.specs.Databases.{DatabaseValue}
use Rattle.pdb_files.specs.BadKinds.{bad_file}
use Rattle.pdb_files.specs.Faults.{Refuses as FaultRefuses, file_fault}
use Rattle.pdb_files.specs.declared.bad_kind.BadKind.{BadKind}
use Rattle.pdb_files.specs.declared.fault.FileFault.{FileFault}
use Rattle.pdb_files.specs.declared.fault.FileFault.TheVariants.{NoMemory as NoMemoryFault}
use Rattle.hotsync_looks.specs.BadFiles.{StandsFor}
use Rattle.handheld_files.specs.BadFiles.{BreaksRule}
use Rattle.hotsync_looks.specs.InstallFiles.{FileShows, IsFileRefusal}
use Rattle.cmd_status.specs.Sources.{source_limit}
use Rattle.cmd_status.specs.declared.status.FileSide.TheVariants.{Source}
use Rattle.cmd_status.specs.declared.status.Status.{Status}
use Rattle.cmd_status.specs.declared.status.Status.TheVariants.{BadFile, NoMemory, SourceRead}

broken : {bytes : List ℕ} {kind : BadKind} {place : ℕ} (rule : FileFault) → FaultRefuses {A = DatabaseValue} (Err rule) (file_fault bytes)
    → bad_file rule ≡ Some (kind, place) → BreaksRule bytes kind place
broken NoMemoryFault why is = cc is
broken rule why is = record { rule = rule; first = why; is = is }

module _ (path bytes : List ℕ) (rule : FileFault) (why : FaultRefuses {A = DatabaseValue} (Err rule) (file_fault bytes)) where
  -- the status of bytes that are no database's file
  pub bad_file_shows : (status : Status) → length bytes ≤ source_limit → StandsFor Source path rule status → FileShows path status bytes
  bad_file_shows (BadFile side name kind place) short stands = (short, stands.0, stands.1, broken rule why stands.2)
  bad_file_shows NoMemory short stands = tt
  bad_file_shows status short stands = absurd stands

  pub bad_file_known : (status : Status) → StandsFor Source path rule status → IsFileRefusal status
  bad_file_known (BadFile side name kind place) stands = stands.0
  bad_file_known NoMemory stands = tt
  bad_file_known status stands = absurd stands

  pub bad_file_blames : (status : Status) → StandsFor Source path rule status → status ≡ SourceRead → ⊥
  bad_file_blames status stands is = let no : StandsFor Source path rule SourceRead = rw is at stands in no
