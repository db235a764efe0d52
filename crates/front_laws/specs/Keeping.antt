-- What keeps a content of a database over sessions of both sides, and over edits between them.
use Rattle.std.specs.Prelude.{◌≡◌, ◌&&◌, ℕ, Bool, true, not, List, Some}
use Rattle.pdb_values.specs.Contents.{ContentValue}
use Rattle.pdb_values.specs.Databases.{DatabaseValue}
use Rattle.pdb_values.specs.NamedDatabases.{database_of}
use Rattle.pdb_values.specs.declared.record.Record.{Record}
use Rattle.pdb_values.specs.declared.user.UserInfo.{UserInfo}
use Rattle.conduit_rules.specs.States.{first}
use Rattle.conduit_rules.specs.Views.{IsHonest}
use Rattle.conduit_rules.specs.declared.action.Action.{Action}
use Rattle.conduit_rules.specs.declared.action.Action.TheVariants.{Sync, Handheld, Desktop, Both}
use Rattle.desk_store.specs.Shelves.{SlotValue}
use Rattle.mirrors.specs.Agreements.{agreed}
use Rattle.session_plan.specs.Partings.{agrees_with}
use Rattle.session_plan.specs.Tasks.{Meeting, records_of, slot_of}
use Rattle.front_laws.specs.Again.{RunsAgain}
use Rattle.front_laws.specs.Lives.{IsInPlace, is_live_in}
use Rattle.front_laws.specs.Meetings.{action_at, holding}
use Rattle.front_laws.specs.Parts.{HasFewRows}
use Rattle.front_laws.specs.Repeats.{Ending}
use Rattle.front_laws.specs.Sound.{FitsLimits}

-- where both sides agree on a database, each record of the handheld that isn't marked has the
-- content of its base row
abbrev pub ShowsChanges : UserInfo → List DatabaseValue → SlotValue → List ℕ → Type 0
ShowsChanges user databases slot name =
    agrees_with (agreed user slot.marks) slot.parted name ≡ true
    → IsHonest (records_of (database_of name slot.shelves.bases))
    (records_of (database_of name databases))

-- neither changed nor deleted since the last session
abbrev pub is_unmarked : Record → Bool
is_unmarked r = not r.dirty && not r.deleted

-- an edit of the handheld marks what it changes: each record that isn't marked stood there before
abbrev pub MarksChanges : List Record → List Record → Type 0
MarksChanges old new =
    (i : ℕ) (r : Record) → first i new ≡ Some r → is_unmarked r ≡ true → first i old ≡ Some r

-- an action that goes by one side finds a content there that is live on the other one, and so lets
-- none go
abbrev pub ActionSpares : ContentValue → Action → Ending → Type 0
ActionSpares c Sync e = Unit {0}
ActionSpares c Handheld e = is_live_in c e.rows ≡ true → is_live_in c e.records ≡ true
ActionSpares c Desktop e = is_live_in c e.records ≡ true → is_live_in c e.rows ≡ true
ActionSpares c Both e = Unit {0}

-- ---- a meeting

-- what both sides hold of a database before a session
abbrev pub holding_at : Meeting → List ℕ → Ending
holding_at meeting name = holding meeting.device (slot_of meeting) name

-- Nothing has let a content of a database go so far, and each record that isn't marked is as both
-- sides agreed on it.
pub record IsKept (c : ContentValue) (meeting : Meeting) (name : List ℕ) : Type 0 where
  pub place : IsInPlace c (holding_at meeting name)
  pub shown : ShowsChanges meeting.device.user meeting.device.databases (slot_of meeting) name

-- A session came to any place, and the next one meets what it left: of a content that is kept, where
-- the action of the database lets none go.
pub record LetsBe (c : ContentValue) (meeting next : Meeting) (name : List ℕ) : Type 0 where
  pub fits : FitsLimits meeting
  pub few : HasFewRows meeting
  pub writes : ℕ
  pub given : List ℕ
  pub runs : RunsAgain meeting next writes given
  pub kept : IsKept c meeting name
  pub spares : ActionSpares c (action_at meeting name) (holding_at meeting name)
