-- A database that takes no part in a session, and how the next one reads it.
use Rattle.std.specs.Prelude.{◌≡◌, ◌≤◌, ℕ, true, false, List, is_some, length}
use Rattle.std.specs.List.{list_any}
use Rattle.std.specs.Str.{bytes_eq}
use Rattle.pdb_values.specs.Bounds.{most_databases}
use Rattle.session_plan.specs.Choosing.{is_fast}
use Rattle.session_plan.specs.Skips.{skip_of}
use Rattle.session_plan.specs.Tasks.{Meeting, names, slot_of, task_of}
use Rattle.front_laws.specs.Meetings.{found_of}

-- a session skips a database that a side has, and of which the slot has base rows
pub record TakesNoPart (meeting : Meeting) (name : List ℕ) : Type 0 where
  pub there : list_any (λ other. bytes_eq other name) (names meeting) ≡ true
  pub skipped : is_some (skip_of (task_of meeting name)) ≡ true
  pub based : is_some (task_of meeting name).base ≡ true

-- the slot has no more databases than a desktop keeps
abbrev pub HasFewRows : Meeting → Type 0
HasFewRows meeting = length (slot_of meeting).shelves.rows ≤ most_databases

-- all of a database is read, and its gone rows count
pub record IsReadAnew (meeting : Meeting) (name : List ℕ) : Type 0 where
  pub whole : is_fast meeting (task_of meeting name) ≡ false
  pub gone : (found_of meeting name).gone_counts ≡ true
