-- Where a handheld stands after a beginning of a session's acts, database by database.
use Rattle.std.specs.Prelude.{◌≡◌, ◌⊎◌, ℕ, List, [], ◌++◌, Option, Some, None}
use Rattle.std.specs.List.{flat_map}
use Rattle.pdb_values.specs.Databases.{DatabaseValue}
use Rattle.pdb_values.specs.NamedDatabases.{database_of}
use Rattle.palm_device.specs.Devices.{Device}
use Rattle.palm_device.specs.Records.{with_records}
use Rattle.record_merge.specs.Writes.{Write, after, giving}
use Rattle.session_plan.specs.Blocks.{GivenBlocks, blocks_for, with_blocks}
use Rattle.session_plan.specs.Merges.{bare_before, handheld_before, merged_device}
use Rattle.session_plan.specs.Skips.{active}
use Rattle.session_plan.specs.Tasks.{Meeting, Task, task_of}
use Rattle.session_plan.specs.Users.{begun_user}
use Rattle.sync_session.specs.Fronts.{MeetingFront}
use Rattle.front_laws.specs.Meetings.{IsActive, action_at, found_of, ids_at}
use Rattle.front_laws.specs.Repeats.{GotAllIds, GotIds, chosen, clearing_done, given_by, news_done, shown}
use Rattle.front_laws.specs.Sound.{FitsLimits}

-- a front of a session that passes no limit
pub record IsFittingFront (meeting : Meeting) (writes : ℕ) (given : List ℕ) (device : Device)
    : Type 0 where
  pub fits : FitsLimits meeting
  pub front : MeetingFront meeting writes given device

-- so many of the replacements and adds of the database of a name, where its adds got these ids
abbrev pub news_at : Meeting → List ℕ → List ℕ → ℕ → List Write
news_at meeting name ids count =
    news_done (action_at meeting name) (found_of meeting name) ids count

-- all of them, and so many of its purges, the clean up and the reset
abbrev pub cleared_at : Meeting → List ℕ → List ℕ → ℕ → List Write
cleared_at meeting name ids count =
    giving (chosen (action_at meeting name) (found_of meeting name))
    (shown (found_of meeting name)) ids
    ++ clearing_done (action_at meeting name) (found_of meeting name) count

-- a database with its blocks and with these writes carried out: the one that the handheld had, or
-- the one that was made
pub record IsWritten (task : Task) (writes : List Write) (now : Option DatabaseValue) : Type 0 where
  pub before : DatabaseValue
  pub is : handheld_before task.handheld task.rows ≡ Some before
  pub stands : now ≡ Some (with_records (after writes before.records) before)

-- the app block of these alone
abbrev pub app_alone : GivenBlocks → GivenBlocks
app_alone blocks = record { app = blocks.app; sort = None }

-- a database that was opened or made and has none of its blocks yet, or the app block alone
pub record IsUnfilled (task : Task) (now : Option DatabaseValue) : Type 0 where
  pub bare : DatabaseValue
  pub is : bare_before task.handheld task.rows ≡ Some bare
  pub stands : (now ≡ Some bare)
      ⊎ (now ≡ Some (with_blocks (app_alone (blocks_for task.handheld task.rows)) bare))

-- the same, or as it was before any write, or on the way to its blocks
abbrev pub StandsWith : Task → List Write → Option DatabaseValue → Type 0
StandsWith task writes now =
    ((now ≡ task.handheld) × (writes ≡ []))
    ⊎ ((IsUnfilled task now × (writes ≡ [])) ⊎ IsWritten task writes now)

-- the user is that of a session under way, or nothing was written yet
abbrev pub HasBegun : Meeting → Device → Type 0
HasBegun meeting device =
    (device.user ≡ begun_user meeting.device.user)
    ⊎ ((device.user ≡ meeting.device.user) × (device.databases ≡ meeting.device.databases))

-- Up to the desktop's commit: each database has so many of its replacements and adds, under the ids
-- that are dealt out to it, of which no record had any at its turn, and none is left; its blocks
-- before any of them. What the session skips or hasn't is as before.
pub record StandsAmongNews (meeting : Meeting) (given : List ℕ) (device : Device) : Type 0 where
  pub count : List ℕ → ℕ
  pub each : (name : List ℕ)
      → StandsWith (task_of meeting name)
      (news_at meeting name (ids_at meeting given name) (count name))
      (database_of name device.databases)
  pub all : (name : List ℕ)
      → given_by (news_at meeting name (ids_at meeting given name) (count name))
      ≡ ids_at meeting given name
  pub free : (name : List ℕ)
      → GotIds (action_at meeting name) (found_of meeting name) (ids_at meeting given name)
  pub dealt : flat_map (λ (task : Task). ids_at meeting given task.name) (active meeting) ≡ given
  pub others : (name : List ℕ) → (IsActive meeting name → ⊥)
      → database_of name device.databases ≡ database_of name meeting.device.databases
  pub begun : HasBegun meeting device

-- the user is that of a session under way, or the handheld is the merged one
abbrev pub HasEnded : Meeting → List ℕ → Device → Type 0
HasEnded meeting given device =
    (device.user ≡ begun_user meeting.device.user)
    ⊎ ((device.user ≡ (merged_device meeting given).user)
    × (device.databases ≡ (merged_device meeting given).databases))

-- Behind the commit: each database has all of these, with the ids that are dealt out to it, and so
-- many of its purges, the clean up and the reset.
pub record StandsBehindCommit (meeting : Meeting) (given : List ℕ) (device : Device) : Type 0 where
  pub count : List ℕ → ℕ
  pub each : (name : List ℕ) → IsActive meeting name
      → IsWritten (task_of meeting name)
      (cleared_at meeting name (ids_at meeting given name) (count name))
      (database_of name device.databases)
  pub free : (name : List ℕ) → IsActive meeting name
      → GotAllIds (action_at meeting name) (found_of meeting name) (ids_at meeting given name)
  pub others : (name : List ℕ) → (IsActive meeting name → ⊥)
      → database_of name device.databases ≡ database_of name meeting.device.databases
  pub ended : HasEnded meeting given device
