-- What is committed is what changes.
use Rattle.std.proofs.Common.{◌≡◌, ℕ, ◌==◌, false, List, [], ◌∷◌, length, Option, Result}
use Rattle.hs_folders.specs.FileMaps.{FileMap}
use Rattle.hs_folders.specs.Moments.{Moments}
use Rattle.desk_store.specs.Changes.{change_entries, with_commit}
use Rattle.desk_store.specs.Views.{DeskValue, marks_in, parted_in}
use Rattle.desk_store.specs.declared.change.DbChange.{DbChange}
use Rattle.desk_store.specs.declared.change.DeskChange.{DeskChange}
use Rattle.desk_store.specs.declared.fault.CommitFault.{CommitFault}
use Rattle.session_plan.specs.Commits.{Commits}
use Rattle.category_mirror.specs.Changes.{CommitsFiled, entries_filed, slots_filed}

module _ {F : Type 0} (contents : F → Option FileMap) (moments : F → Moments) (paths : F → Option (List (List ℕ))) (faults : F → ℕ)
    {desk : DeskValue F} {answer : Result (DeskValue F) (CommitFault × F)} where
  filed_some : (changes : List DbChange) → (length changes == 0) ≡ false
      → Commits contents moments paths faults (slots_filed changes desk) (entries_filed changes desk) desk answer
      → CommitsFiled contents moments paths faults changes desk answer
  filed_some [] some commits = absurd cc
  filed_some (change ∷ changes) some commits = commits

  -- a change with the marks as they were, and the same databases that took no part
  pub filed_change : (change : DeskChange) → change.marks ≡ marks_in desk → change.parted.items ≡ parted_in desk → (length change.databases.items == 0) ≡ false
      → Commits contents moments paths faults (with_commit change desk.picked desk.slots) (change_entries change desk.picked desk.slots) desk answer
      → CommitsFiled contents moments paths faults change.databases.items desk answer
  unfolding slots_filed entries_filed
  filed_change change marks parted some commits = filed_some change.databases.items some (rw (← marks, ← parted) commits)
