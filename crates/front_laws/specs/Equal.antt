-- A database of which both sides hold the same.
use Rattle.std.specs.Prelude.{◌≡◌, ℕ, true, false, List}
use Rattle.std.specs.List.{AllByRecursion}
use Rattle.pdb_values.specs.Records.{is_live}
use Rattle.pdb_values.specs.declared.record.Record.{Record}
use Rattle.palm_device.specs.Soundness.{AreIds, ids_of}
use Rattle.conduit_rules.specs.States.{held}
use Rattle.session_plan.specs.Tasks.{Meeting, task_of}
use Rattle.front_laws.specs.Meetings.{IsTaskShown, holding_after}
use Rattle.front_laws.specs.Repeats.{Ending}

-- a record that is live and not marked as changed
abbrev pub IsUnmarked : Record → Type 0
IsUnmarked item = (is_live item ≡ true) × (item.dirty ≡ false)

-- live and unmarked records, each under an id of its own
pub record AreUnmarked (records : List Record) : Type 0 where
  pub ids : AreIds (ids_of records)
  pub each : AllByRecursion IsUnmarked records

-- The handheld's records and the desktop's rows are the same: under each id both have a record of
-- the same content, or neither has one.
pub record HasEqualSides (end : Ending) : Type 0 where
  pub handheld : AreUnmarked end.records
  pub desktop : AreUnmarked end.rows
  pub same : (id : ℕ) → held end.records id ≡ held end.rows id

-- A session shows what the handheld holds of a database: it reads all of it, or each record that
-- it passes over, as it isn't marked, has the content of its base row.
abbrev pub IsShownWhole : Meeting → List ℕ → Type 0
IsShownWhole meeting name = IsTaskShown meeting (task_of meeting name)

-- so it is behind a whole session, whose new records got these ids
abbrev pub HoldsEqual : Meeting → List ℕ → List ℕ → Type 0
HoldsEqual meeting given name = HasEqualSides (holding_after meeting given name)
