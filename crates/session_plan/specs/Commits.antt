-- How a desktop commits: its picked slot changes at once, or not at all.
use Rattle.std.specs.Prelude.{◌≡◌, ◌⊎◌, ℕ, List, Option, IfOk, Result}
use Rattle.std.specs.Option.{option_map}
use Rattle.std.specs.Result.{IsErrAnd}
use Rattle.hs_folders.specs.Causes.{HasCause}
use Rattle.hs_folders.specs.FileMaps.{FileMap}
use Rattle.hs_folders.specs.Moments.{EachMomentSince, Moments}
use Rattle.pdb_values.specs.declared.user.Marks.{Marks}
use Rattle.pdb_values.specs.declared.user.UserInfo.{UserInfo}
use Rattle.desk_journal.specs.Entries.{EntryValue}
use Rattle.desk_journal.specs.Overlays.{FinishesAs, put_all}
use Rattle.desk_store.specs.Desks.{IsDesk}
use Rattle.desk_store.specs.Shelves.{SlotValue}
use Rattle.desk_store.specs.Views.{DeskValue, folder_in}
use Rattle.desk_store.specs.declared.fault.CommitFault.{CommitFault}
use Rattle.desk_store.specs.declared.fault.CommitFault.TheVariants.{DeskFault}
use Rattle.session_plan.specs.Takes.{taken_entries, taken_slots}
use Rattle.session_plan.specs.declared.planned.Planned.{Planned}

-- With Ok the desktop has these slots, its folder holds these files over all others, and stands for
-- the slots. Whatever the answer, the folder stands for what it stood for, or for all of the
-- change. It is as it was, or with these files it is that of a desktop with these slots. From the
-- first moment at which anything changed on, it stands for the change. The folder's failure is
-- answered where its count rose.
pub record Commits {F : Type 0} (contents : F → Option FileMap) (moments : F → Moments)
    (paths : F → Option (List (List ℕ))) (faults : F → ℕ)
    (taken : List SlotValue) (entries : List EntryValue) (desk : DeskValue F)
    (answer : Result (DeskValue F) (CommitFault × F)) : Type 0 where
  pub slots : IfOk answer (λ after. after.slots ≡ taken)
  pub picked : IfOk answer (λ after. after.picked ≡ desk.picked)
  pub stands : IfOk answer (λ after. IsDesk (contents after.folder) after.slots)
  pub written : IfOk answer
      (λ after. contents after.folder ≡ option_map (put_all entries) (contents desk.folder))
  pub left : FinishesAs (contents desk.folder) (contents (folder_in answer))
      ⊎ FinishesAs (option_map (put_all entries) (contents desk.folder))
      (contents (folder_in answer))
  pub made : (folder_in answer ≡ desk.folder)
      ⊎ IsDesk (option_map (put_all entries) (contents desk.folder)) taken
  pub each_moment : EachMomentSince
      (FinishesAs (option_map (put_all entries) (contents desk.folder))) (moments desk.folder)
      (moments (folder_in answer))
  pub cause : HasCause (faults desk.folder) (faults (folder_in answer))
      (IsErrAnd answer (λ refusal. refusal.0 ≡ DeskFault))
  pub same_paths : paths (folder_in answer) ≡ paths desk.folder

-- what was planned for these databases was committed so with this user, with the marks that end
-- the session; their new records got these ids, one list for each
abbrev pub CommitsPlanned : {F : Type 0} → (F → Option FileMap) → (F → Moments)
    → (F → Option (List (List ℕ))) → (F → ℕ) → Marks → UserInfo → List Planned
    → List (List ℕ) → DeskValue F → Result (DeskValue F) (CommitFault × F) → Type 0
CommitsPlanned contents moments paths faults done user planned ids desk answer =
    Commits contents moments paths faults
    (taken_slots done user planned ids desk.picked desk.slots)
    (taken_entries done user planned ids desk.picked desk.slots) desk answer
