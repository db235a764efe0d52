-- Whether a session of both sides would cost the desktop some rows of a database, as the session
-- finds it.
use Rattle.std.specs.Prelude.{◌≡◌, ℕ, Bool, true, ◌&&◌, ◌||◌, ◌++◌, List}
use Rattle.std.specs.List.{AllByRecursion, list_any}
use Rattle.pdb_values.specs.Contents.{ContentValue}
use Rattle.pdb_values.specs.Records.{is_live}
use Rattle.pdb_values.specs.declared.record.Record.{Record}
use Rattle.conduit_rules.specs.Contents.{same_content}
use Rattle.conduit_rules.specs.Plans.{kept_rows}
use Rattle.conduit_rules.specs.declared.action.Action.TheVariants.{Sync}
use Rattle.session_plan.specs.Losses.{has_lost_all, is_among, is_lost, may_lose}
use Rattle.session_plan.specs.Tasks.{Meeting, task_of}
use Rattle.front_laws.specs.Meetings.{action_at, found_of, holding_after}
use Rattle.front_laws.specs.Repeats.{Ending, Finding, chosen}

-- the handheld has none of the records that both sides agreed on
abbrev pub has_lost : Finding → Bool
has_lost x = has_lost_all x.base x.view

-- its merge leaves the content of some live row neither live nor archived
abbrev pub loses_rows : Finding → Bool
loses_rows x =
    list_any
    (is_lost (kept_rows (chosen Sync x).keep) (chosen Sync x).adds
    (x.archive ++ (chosen Sync x).archive))
    x.rows

-- it does, where the handheld is a stranger or lost the database
abbrev pub costs_rows : Bool → Finding → Bool
costs_rows stranger x = (stranger || has_lost x) && loses_rows x

-- ---- what an ended session leaves

-- a session goes by both sides and their base of a database, and the handheld is a stranger or lost
-- it
pub record MightLose (meeting : Meeting) (name : List ℕ) : Type 0 where
  pub sync : action_at meeting name ≡ Sync
  pub may : may_lose meeting (task_of meeting name) ≡ true

-- a live row has the content, or an entry of the archive
abbrev pub has_left : Ending → ContentValue → Bool
has_left end content =
    list_any (λ (row : Record). is_live row && same_content row.content content) end.rows
    || is_among end.archive content

-- so it is of each live row that a database had, where the new records got these ids
abbrev pub LeavesEach : Meeting → List ℕ → List ℕ → Type 0
LeavesEach meeting given name =
    AllByRecursion
    (λ (row : Record). is_live row ≡ true
    → has_left (holding_after meeting given name) row.content ≡ true)
    (found_of meeting name).rows
