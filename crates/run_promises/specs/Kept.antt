-- Files of a handheld's folder that keep their bytes.
use Rattle.std.specs.Prelude.{◌≡◌, ◌⊎◌, ℕ, List, Option}
use Rattle.std.specs.FinMap as finmap
use Rattle.std.specs.Option.{option_map}
use Rattle.hs_folders.specs.FileMaps.{FileMap}
use Rattle.folder_files.specs.FileNames.{device_info_file, resources_file, rows_file}
use Rattle.session_plan.specs.Tasks.{Meeting}
use Rattle.front_laws.specs.Meetings.{IsActive}

-- the file of a database of this name
abbrev pub IsFileOfName : List ℕ → List ℕ → Type 0
IsFileOfName name file = (file ≡ rows_file name) ⊎ (file ≡ resources_file name)

-- a session leaves a file alone: it isn't the information file, nor that of a database which the
-- session doesn't skip
pub record IsLeftAlone (meeting : Meeting) (file : List ℕ) : Type 0 where
  pub no_info : file ≡ device_info_file → ⊥
  pub of_none : (name : List ℕ) → IsActive meeting name → IsFileOfName name file → ⊥

-- what a folder told holds under a name
abbrev pub bytes_under : List ℕ → Option FileMap → Option (Option (List ℕ))
bytes_under file told = option_map (λ held. finmap.get held file) told

-- each file that the session leaves alone has the bytes that it had, or is missing as it was
abbrev pub KeepsBytes : Meeting → Option FileMap → Option FileMap → Type 0
KeepsBytes meeting told later =
    (file : List ℕ) → IsLeftAlone meeting file → bytes_under file later ≡ bytes_under file told
