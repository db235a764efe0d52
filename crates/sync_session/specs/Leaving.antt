-- What a session leaves of the desktop's folder, over any link.
use Rattle.std.specs.Prelude.{◌≡◌, ◌⊎◌, ℕ, List, Option, OnOk, IsErrOf}
use Rattle.std.specs.List.{AllByRecursion}
use Rattle.std.specs.Option.{option_map}
use Rattle.hs_folders.specs.Causes.{HasCause}
use Rattle.hs_folders.specs.FileMaps.{FileMap}
use Rattle.hs_folders.specs.Moments.{EachMomentSince, Moments}
use Rattle.folder_files.specs.FileNames.{desktop_info_file}
use Rattle.desk_journal.specs.Entries.{EntryValue}
use Rattle.desk_journal.specs.Overlays.{FinishesAs, put_all}
use Rattle.desk_store.specs.DeskFiles.{slot_file}
use Rattle.desk_store.specs.declared.role.Role.{Role}
use Rattle.session_parts.specs.declared.outcome.Outcome.{Outcome}
use Rattle.session_parts.specs.declared.stop.Stop.TheVariants as stop

-- the file of a database in the slot at a place
pub record IsDatabaseFile (place : ℕ) (file : List ℕ) : Type 0 where
  pub role : Role
  pub name : List ℕ
  pub is : file ≡ slot_file place role name

-- the information file, or one of a database in that slot
abbrev pub IsSlotsFile : ℕ → List ℕ → Type 0
IsSlotsFile place file = (file ≡ desktop_info_file) ⊎ IsDatabaseFile place file

-- With these files put over the others, all of one slot or the information file, the folder has
-- what an ended session leaves. One that stopped left it standing for what it stood for, or for
-- that. At each moment since it stood for that. Its failure is told exactly where its count rose.
pub record LeavesFolder {L F : Type 0} (contents : F → Option FileMap) (moments : F → Moments)
    (paths : F → Option (List (List ℕ))) (faults : F → ℕ)
    (folder : F) (left : Outcome L F) : Type 0 where
  pub entries : List EntryValue
  pub place : ℕ
  pub files : AllByRecursion (λ (entry : EntryValue). IsSlotsFile place entry.name) entries
  pub written : OnOk left.end
      (contents left.folder ≡ option_map (put_all entries) (contents folder))
  pub stands : FinishesAs (contents folder) (contents left.folder)
      ⊎ FinishesAs (option_map (put_all entries) (contents folder)) (contents left.folder)
  pub each_moment : EachMomentSince (FinishesAs (option_map (put_all entries) (contents folder)))
      (moments folder) (moments left.folder)
  pub cause : HasCause (faults folder) (faults left.folder) (IsErrOf left.end stop.DeskFault)
  pub same_paths : paths left.folder ≡ paths folder
