-- Runs of one pair of folders, one behind another, whatever became of each but the last.
use Rattle.std.specs.Prelude.{◌≡◌, ℕ, List, [], ◌∷◌, IsSome}
use Rattle.handheld_files.specs.Openings.{Stands}
use Rattle.desk_store.specs.Desks.{IsDesk}
use Rattle.desk_store.specs.Shelves.{slot_at}
use Rattle.run_words.specs.Runs.{run_actions}
use Rattle.session_plan.specs.Merges.{merged_device, merged_slot, merged_slots}
use Rattle.session_plan.specs.Tasks.{Meeting}
use Rattle.front_laws.specs.Meetings.{IsActive, action_at, found_of, holding_after, ids_at}
use Rattle.front_laws.specs.Renaming.{AreUnknown, SameEnds}
use Rattle.front_laws.specs.Repeats.{GotAllIds}
use Rattle.front_laws.specs.Again.{AllSkip, EndsAtMerge, HoldsTheSame, IsFreshBehind, Later, last_run}
use Rattle.run_promises.specs.RunCalls.{IsAnsweredRun, RunCall}
use Rattle.call_parts.specs.LineRuns.{log_in}
use Rattle.cmd_session.specs.Meetings.{Meets}
use Rattle.call_parts.specs.Told.{CallTold}
use Rattle.call_parts.specs.declared.report.SessionEnd.{SessionEnd}
use Rattle.call_parts.specs.declared.report.SessionEnd.TheVariants.{Ended, NotStarted}

-- ---- both sides before a run

-- both folders are told before a call
pub record AreTold (told : CallTold) : Type 0 where
  pub palm : IsSome told.palm.contents
  pub desk : IsSome told.desk.contents

-- two meetings of the same sides
pub record AreOfOneKind (meeting other : Meeting) : Type 0 where
  pub device : other.device ≡ meeting.device
  pub slots : other.slots ≡ meeting.slots
  pub picked : other.picked ≡ meeting.picked

-- ---- runs one behind another

-- a call for a run, whose folders are told
abbrev pub DidRun : RunCall → Type 0
DidRun call = AreTold call.before × IsAnsweredRun call

-- nothing is edited between two calls, and the words ask the same, but for date, script, trace and
-- whether a user may be added; a name that is asked for is the same
pub record IsRepeat (call next : RunCall) : Type 0 where
  pub actions : run_actions next.run ≡ run_actions call.run
  pub slow : next.run.slow ≡ call.run.slow
  pub user : next.run.user ≡ call.run.user
  pub palm : next.before.palm.contents ≡ call.after.palm.contents
  pub desk : next.before.desk.contents ≡ call.after.desk.contents

-- whatever became of each call, the session of the last one ended
abbrev pub AllRan : RunCall → List RunCall → Type 0
AllRan call [] = DidRun call × (call.report.end ≡ Ended)
AllRan call (next ∷ later) = DidRun call × IsRepeat call next × AllRan next later

-- a call whose session began, or none
abbrev pub if_begun : SessionEnd → RunCall → List RunCall → List RunCall
if_begun NotStarted call later = later
if_begun other call later = call ∷ later

-- the calls whose session began, in order
abbrev pub begun_of : List RunCall → List RunCall
begun_of [] = []
begun_of (call ∷ later) = if_begun call.report.end call (begun_of later)

abbrev pub last_call : RunCall → List RunCall → RunCall
last_call call [] = call
last_call call (next ∷ later) = last_call next later

-- the sessions of the calls behind a first one met these, each after the writes of the one before
-- it and the ids that its new records got
abbrev pub AllMeet : RunCall → List RunCall → List Later → Type 0
AllMeet call [] [] = Unit {0}
AllMeet call [] (e ∷ es) = ⊥
AllMeet call (next ∷ later) [] = ⊥
AllMeet call (next ∷ later) (e ∷ es) =
    Meets next.run next.before e.next × (e.writes ≡ call.report.writes)
    × (e.given ≡ (log_in call.report).given) × AllMeet next later es

-- ---- what they leave

-- ids that one whole session could have given to the new records of a database: each was free at
-- its turn, and nothing had one
pub record CanGive (meeting : Meeting) (name ids : List ℕ) : Type 0 where
  pub got : GotAllIds (action_at meeting name) (found_of meeting name) ids
  pub unknown : AreUnknown (found_of meeting name) ids

-- The last of the sessions behind a first one, where it gave these ids, takes up all that came
-- before. The folders stand for its merge. It skips no database that the first one didn't, and each
-- of these ends as one whole session of the first meeting would have ended it, whichever ids that
-- would have given, and some it could have: at the merge of what the first one found, under the ids
-- that all of them gave. What the first one skipped all of them skip, and both sides hold of it
-- what the first one found.
pub record TakesUp (meeting : Meeting) (others : List Later) (given : List ℕ)
    (after : CallTold) : Type 0 where
  pub handheld : Stands after.palm.contents
      (merged_device (last_run meeting others) given).databases
      (merged_device (last_run meeting others) given).user
  pub desktop : IsDesk after.desk.contents (merged_slots (last_run meeting others) given)
  pub slot : slot_at (merged_slots (last_run meeting others) given) meeting.picked
      ≡ merged_slot (last_run meeting others) given
  pub kept : (name : List ℕ) → IsActive meeting name → IsActive (last_run meeting others) name
  pub each : (name new : List ℕ) → IsActive meeting name → IsFreshBehind meeting others given name
      → CanGive meeting name (ids_at meeting new name)
      → SameEnds (found_of meeting name) (holding_after (last_run meeting others) given name)
      (holding_after meeting new name)
  pub merged : (name : List ℕ) → IsActive meeting name → IsFreshBehind meeting others given name
      → EndsAtMerge meeting others given name
  pub can : (new : List ℕ)
      × ((name : List ℕ) → IsActive meeting name → CanGive meeting name (ids_at meeting new name))
  pub skipped : (name : List ℕ) → (IsActive meeting name → ⊥) → AllSkip meeting others name
      × HoldsTheSame meeting (merged_device (last_run meeting others) given)
      (merged_slot (last_run meeting others) given) name

-- Calls of which some began a session: the first of these met the sides that the folders of the
-- first call held, each other one those that its own held, and the last one took up all that came
-- before.
pub record EndsAsOne (call : RunCall) (later : List RunCall) : Type 0 where
  pub first : RunCall
  pub rest : List RunCall
  pub begun : begun_of (call ∷ later) ≡ first ∷ rest
  pub meeting : Meeting
  pub meets : Meets first.run call.before meeting
  pub others : List Later
  pub meet : AllMeet first rest others
  pub takes_up : TakesUp meeting others (log_in (last_call call later).report).given
      (last_call call later).after
