-- A database of a session, as both sides of a merge.
use Rattle.std.specs.Prelude.{◌≡◌, ℕ, Bool, false, List, IfSome, Some}
use Rattle.std.specs.Option.{option_or}
use Rattle.pdb_values.specs.Databases.{DatabaseValue}
use Rattle.pdb_values.specs.NamedDatabases.{with_put}
use Rattle.conduit_rules.specs.declared.action.Action.{Action}
use Rattle.session_plan.specs.Choosing.{agrees, is_fast}
use Rattle.session_plan.specs.Limits.{sizes_of}
use Rattle.session_plan.specs.Merges.{merged_of, put_merged}
use Rattle.session_plan.specs.Tasks.{Meeting, Task}
use Rattle.session_plan.specs.declared.sizes.Sizes.{Sizes}
use Rattle.database_merge.specs.Faults.{is_full}
use Rattle.database_merge.specs.Merges.{left_by}
use Rattle.database_merge.specs.Seeing.{merge_choice, shown}
use Rattle.database_merge.specs.declared.both_sides.BothSides.{BothSides}
use Rattle.database_merge.specs.declared.wishes.MergeWishes.{MergeWishes}

-- what both sides hold of it
abbrev pub sides_of_task : Task → BothSides
sides_of_task task = record {
  handheld = task.handheld;
  rows = task.rows;
  base = task.base;
  archive = task.archive;
}

-- what the session asks
abbrev pub wishes_of_task : Meeting → Task → Action → MergeWishes
wishes_of_task meeting task action = record {
  action = action;
  agree = agrees meeting task.name;
  date = meeting.wishes.date;
}

-- how much it makes, the numbers of databases left out
abbrev pub sizes_alone : Meeting → Task → Sizes
sizes_alone meeting task = record (sizes_of meeting 0 0 task) { handhelds = 0; desktops = 0 }

-- both sides afterwards have what the session puts on the handheld and on the desktop
pub record LeavesAs (meeting : Meeting) (task : Task) (given : List ℕ)
    (before rows : DatabaseValue) (after : BothSides) : Type 0 where
  pub handheld : (databases : List DatabaseValue) → IfSome after.handheld
      (λ database. put_merged meeting task given (Some before) databases
      ≡ with_put database databases)
  pub rows_are : after.rows ≡ Some (merged_of meeting task given rows).rows
  pub base : after.base ≡ Some (merged_of meeting task given rows).base
  pub archive : after.archive
      ≡ option_or (merged_of meeting task given rows).archive task.archive

-- the session of this action reads all records of it
pub record IsReadWhole (meeting : Meeting) (task : Task) (action : Action) : Type 0 where
  pub asked : task.action ≡ Some action
  pub slow : is_fast meeting task ≡ false

-- they have what a merge leaves, where its new records got these ids
abbrev pub LeavesAsMerge : Meeting → Task → Action → List ℕ → DatabaseValue → DatabaseValue
    → Type 0
LeavesAsMerge meeting task action given before rows =
    let both = sides_of_task task in
    let wishes = wishes_of_task meeting task action in
    LeavesAs meeting task given before rows
    (left_by (merge_choice both wishes) (shown both wishes) given task.archive before rows)

-- a merge finds a limit passed
abbrev pub finds_full : Meeting → Task → Action → Bool
finds_full meeting task action = is_full (sides_of_task task) (wishes_of_task meeting task action)
