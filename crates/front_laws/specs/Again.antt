-- A session that is run again behind one that stopped.
use Rattle.std.specs.Prelude.{◌≡◌, ◌≤◌, ◌<◌, ◌++◌, ◌⊎◌, ℕ, true, List, [], ◌∷◌, None}
use Rattle.pdb_values.specs.NamedDatabases.{database_of}
use Rattle.palm_device.specs.Devices.{Device}
use Rattle.conduit_rules.specs.States.{BaseState, base_at}
use Rattle.conduit_rules.specs.declared.action.Action.TheVariants.{Desktop}
use Rattle.record_merge.specs.Stops.{NoBase}
use Rattle.desk_store.specs.Shelves.{SlotValue}
use Rattle.sync_session.specs.Fronts.{MeetingFront}
use Rattle.session_plan.specs.Limits.{first_over}
use Rattle.session_plan.specs.Losses.{first_loss}
use Rattle.session_plan.specs.Merges.{merged_device, merged_slot}
use Rattle.sync_session.specs.Sessions.{writes_before_commit}
use Rattle.session_plan.specs.Tasks.{Meeting, slot_of, task_of}
use Rattle.front_laws.specs.Meetings.{AsksTheSame, GotAllAt, IsActive, action_at, found_of, holding_after, ids_at}
use Rattle.front_laws.specs.Renaming.{AreUnknown, SameEnds}
use Rattle.front_laws.specs.Repeats.{EndAlike, GotAllIds, GotIds, NoneUnderGone, ended}
use Rattle.front_laws.specs.Equal.{IsShownWhole}
use Rattle.front_laws.specs.Sound.{FitsLimits, IsSoundMeeting}

-- the desktop's slot is as it was, or merged: the first while no more writes were made than stand
-- before the commit, the second from there on
abbrev pub HasSlot : Meeting → Meeting → ℕ → List ℕ → Type 0
HasSlot meeting next writes given =
    ((slot_of next ≡ slot_of meeting) × (writes ≤ writes_before_commit meeting))
    ⊎ ((slot_of next ≡ merged_slot meeting given) × (writes_before_commit meeting ≤ writes))

-- the next meeting finds the handheld at a front of the one that stopped, and asks the same but for
-- the date; the desktop has a number
pub record RunsAgain (meeting next : Meeting) (writes : ℕ) (given : List ℕ) : Type 0 where
  pub front : MeetingFront meeting writes given next.device
  pub slot : HasSlot meeting next writes given
  pub asks : AsksTheSame meeting next
  pub number : 0 < (slot_of meeting).marks.pc

-- Of a database: the first session read all of it, or what it passed over was honest; no id that
-- one of the sessions gave was that of a base row, gone or not, that it had then; and where both
-- sides agreed, no record had the id of a gone row.
pub record IsFresh (meeting next : Meeting) (given later : List ℕ) (name : List ℕ) : Type 0 where
  pub honest : IsShownWhole meeting name
  pub fresh : NoBase (base_at (found_of meeting name).base true)
      (ids_at meeting given name ++ ids_at next later name)
  pub gone : NoneUnderGone (found_of meeting name).gone_counts (found_of meeting name).base
      (found_of meeting name).records

-- so of each database that the first one doesn't skip
abbrev pub AreAllFresh : Meeting → Meeting → List ℕ → List ℕ → Type 0
AreAllFresh meeting next given later =
    (name : List ℕ) → IsActive meeting name → IsFresh meeting next given later name

-- each new record of a database got one of these ids from the last session, by whichever sides the
-- first one went
abbrev pub GotLastIds : Meeting → Meeting → List ℕ → List ℕ → Type 0
GotLastIds meeting last later name =
    GotAllIds (action_at meeting name) (found_of last name) (ids_at last later name)

-- of a database, that the session of the first meeting stopped, and that of the next one was run
-- again behind it, to its end
pub record IsRunAgain (meeting next : Meeting) (given later : List ℕ) (name : List ℕ)
    : Type 0 where
  pub fits : FitsLimits meeting
  pub writes : ℕ
  pub again : RunsAgain meeting next writes given
  pub active : IsActive meeting name
  pub fresh : IsFresh meeting next given later name
  pub got : GotLastIds meeting next later name

-- a session gave each of its new records of a database one of these ids, which nothing had
pub record GivesNewIds (meeting : Meeting) (given name : List ℕ) : Type 0 where
  pub got : GotAllAt meeting given name
  pub unknown : AreUnknown (found_of meeting name) (ids_at meeting given name)

-- The last session doesn't skip a database, and ends as the first one would have ended, whichever
-- ids that would have given to its new records.
abbrev pub EndsAsWhole : Meeting → Meeting → List ℕ → List ℕ → Type 0
EndsAsWhole meeting last later name =
    (new : List ℕ) → GivesNewIds meeting new name
    → IsActive last name
    × SameEnds (found_of meeting name) (holding_after last later name)
    (holding_after meeting new name)

-- a meeting at which the desktop loses no live row to a handheld that is a stranger, or lost a
-- database
abbrev pub LosesNone : Meeting → Type 0
LosesNone meeting = first_loss meeting ≡ None

-- ---- any number of them

-- a meeting behind one that stopped after so many writes, whose new records got these ids
pub record Later : Type 0 where
  pub next : Meeting
  pub writes : ℕ
  pub given : List ℕ

-- each is run again by the one behind it
abbrev pub AllRunAgain : Meeting → List Later → Type 0
AllRunAgain meeting [] = Unit {0}
AllRunAgain meeting (e ∷ es) =
    IsSoundMeeting meeting × (first_over meeting ≡ None)
    × RunsAgain meeting e.next e.writes e.given × AllRunAgain e.next es

-- the last of them
abbrev pub last_run : Meeting → List Later → Meeting
last_run meeting [] = meeting
last_run meeting (e ∷ es) = last_run e.next es

-- no id that one of them gave was that of such a base row
abbrev pub AreFresh : (ℕ → BaseState) → Meeting → List Later → List ℕ → List ℕ → Type 0
AreFresh base meeting [] later name = NoBase base (ids_at meeting later name)
AreFresh base meeting (e ∷ es) later name =
    NoBase base (ids_at meeting e.given name) × AreFresh base e.next es later name

-- of a database what is asked for one of them, where the last gave these ids
pub record IsFreshBehind (meeting : Meeting) (es : List Later) (later : List ℕ)
    (name : List ℕ) : Type 0 where
  pub honest : IsShownWhole meeting name
  pub fresh : AreFresh (base_at (found_of meeting name).base true) meeting es later name
  pub gone : NoneUnderGone (found_of meeting name).gone_counts (found_of meeting name).base
      (found_of meeting name).records

-- of a database, that these sessions stopped, and the last was run to its end behind them
pub record AreRunAgain (meeting : Meeting) (es : List Later) (later : List ℕ) (name : List ℕ)
    : Type 0 where
  pub sound : IsSoundMeeting meeting
  pub again : AllRunAgain meeting es
  pub active : IsActive meeting name
  pub fresh : IsFreshBehind meeting es later name
  pub got : GotLastIds meeting (last_run meeting es) later name

-- ---- under which ids they end

-- the ids that the sessions gave to a database, in order
abbrev pub ids_of_all : Meeting → List Later → List ℕ → List ℕ → List ℕ
ids_of_all meeting [] later name = ids_at meeting later name
ids_of_all meeting (e ∷ es) later name =
    ids_at meeting e.given name ++ ids_of_all e.next es later name

-- The last session leaves of a database the merge of what the first one found, but for gone rows of
-- the base, under ids of which each was free at its turn and nothing had one. They are all that
-- were given, in order, unless it goes by the desktop, where those given before the commit are
-- purged again.
pub record EndsAtMerge (meeting : Meeting) (es : List Later) (later name : List ℕ) : Type 0 where
  pub ids : List ℕ
  pub all : (action_at meeting name ≡ Desktop → ⊥) → ids ≡ ids_of_all meeting es later name
  pub got : GotIds (action_at meeting name) (found_of meeting name) ids
  pub unknown : AreUnknown (found_of meeting name) ids
  pub ends : EndAlike (holding_after (last_run meeting es) later name)
      (ended (action_at meeting name) (found_of meeting name) ids)

-- ---- what they skip

-- both sides hold under a name what a meeting found there
pub record HoldsTheSame (meeting : Meeting) (device : Device) (slot : SlotValue)
    (name : List ℕ) : Type 0 where
  pub handheld : database_of name device.databases ≡ (task_of meeting name).handheld
  pub rows : database_of name slot.shelves.rows ≡ (task_of meeting name).rows
  pub base : database_of name slot.shelves.bases ≡ (task_of meeting name).base
  pub archive : database_of name slot.shelves.archives ≡ (task_of meeting name).archive

-- each of the sessions behind a first one skips the database of a name, and finds it as the first
-- did
abbrev pub AllSkip : Meeting → List Later → List ℕ → Type 0
AllSkip meeting [] name = Unit {0}
AllSkip meeting (e ∷ es) name =
    (IsActive e.next name → ⊥) × HoldsTheSame meeting e.next.device (slot_of e.next) name
    × AllSkip meeting es name

-- once a session has ended both sides hold under a name what the first meeting found there
abbrev pub LeavesTheSame : Meeting → Meeting → List ℕ → List ℕ → Type 0
LeavesTheSame meeting last given name =
    HoldsTheSame meeting (merged_device last given) (merged_slot last given) name

-- a database that a meeting skips
abbrev pub IsSkipped : Meeting → List ℕ → Type 0
IsSkipped meeting name = IsActive meeting name → ⊥
