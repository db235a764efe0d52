-- What a session knows of its databases before it reads one: from the list of the handheld's heads,
-- and the slot.
use Rattle.std.specs.Prelude.{ℕ, Bool, List, [], find, is_some, map, Option}
use Rattle.std.specs.Str.{bytes_eq}
use Rattle.pdb_values.specs.NamedDatabases.{database_of}
use Rattle.pdb_values.specs.declared.head.DbHead.{DbHead}
use Rattle.conduit_rules.specs.declared.action.Action.{Action}
use Rattle.desk_store.specs.Shelves.{ShelvesValue}
use Rattle.run_words.specs.Actions.{action_for}
use Rattle.session_plan.specs.declared.wishes.Wishes.{Wishes}
use Rattle.session_plan.specs.declared.job.Job.{Job}
use Rattle.session_plan.specs.Tasks.{action_of_word, names_of, with_names}
use Rattle.session_plan.specs.Skips.{head_of, reason_by}
use Rattle.session_plan.specs.Choosing.{action_or_sync, is_fast_by}

-- the head of a name
abbrev pub head_named : List ℕ → List DbHead → Option DbHead
head_named name heads = find (λ (head : DbHead). bytes_eq head.name name) heads

-- the database of a name, by both heads, whether it has base rows, its action, whether both sides
-- agree on it, and whether all is read whole
abbrev pub job_by : List ℕ → Option DbHead → Option DbHead → Bool → Option Action → Bool
    → Bool → Job
job_by name handheld rows base action agree slow = record {
  name = name;
  handheld = handheld;
  rows = rows;
  action = action;
  skip = reason_by action handheld rows base;
  fast = is_fast_by agree slow (action_or_sync action) (is_some handheld) (is_some rows) base;
}

abbrev pub job_of : List DbHead → ShelvesValue → (List ℕ → Bool) → Wishes → List ℕ → Job
job_of heads shelves agree wishes name =
    job_by name (head_named name heads) (head_of (database_of name shelves.rows))
    (is_some (database_of name shelves.bases))
    (action_of_word (action_for name wishes.actions.items)) (agree name) wishes.slow

-- the names of both sides, in byte order
abbrev pub names_with : List DbHead → ShelvesValue → List (List ℕ)
names_with heads shelves =
    with_names (names_of shelves.rows) (with_names (map (λ (head : DbHead). head.name) heads) [])

-- all of them
unfoldable pub jobs_of : List DbHead → ShelvesValue → (List ℕ → Bool) → Wishes → List Job
jobs_of heads shelves agree wishes =
    map (job_of heads shelves agree wishes) (names_with heads shelves)
