-- A meeting behind one that stopped, database by database, with the marks of both sides.
use Rattle.std.specs.Prelude.{◌≡◌, ◌<◌, ℕ, true, not, List, [], ◌∷◌, ◌++◌, drop, if◌then◌else◌, map, is_none, is_some, take, None, Option, Some, ◌&&◌}
use Rattle.std.specs.List.{list_any}
use Rattle.std.specs.Str.{bytes_eq}
use Rattle.pdb_values.specs.Heads.{holds_resources, is_read_only, is_stream}
use Rattle.pdb_values.specs.NamedDatabases.{database_of}
use Rattle.pdb_values.specs.declared.head.DbHead.{DbHead}
use Rattle.palm_device.specs.Devices.{Device}
use Rattle.conduit_rules.specs.declared.action.Action.{Action}
use Rattle.conduit_rules.specs.Views.{IsHonest}
use Rattle.record_merge.specs.Writes.{after, giving}
use Rattle.desk_store.specs.Shelves.{SlotValue}
use Rattle.session_plan.specs.Archives.{entries_of}
use Rattle.session_plan.specs.Choosing.{action_or_sync, add_count, agrees, base_rows, is_fast, view}
use Rattle.session_plan.specs.Merges.{merged_device, merged_slot}
use Rattle.session_plan.specs.Skips.{active, head_of, skip_of}
use Rattle.session_plan.specs.Tasks.{Meeting, Task, names, task_of, slot_of, records_of}
use Rattle.front_laws.specs.Renaming.{AreUnknown, GotNewIds, SameEnds}
use Rattle.front_laws.specs.Repeats.{AreStops, Ending, Finding, GotAllIds, IsRead, Place, all_ids, at_end, chosen, clearing_done, ended, left, news_done, shown}

-- ---- one meeting

-- a database as its session finds it
abbrev pub found : Meeting → Task → Finding
found meeting task = record {
  view = view meeting task;
  records = records_of task.handheld;
  rows = records_of task.rows;
  base = base_rows task;
  archive = entries_of (records_of task.archive);
  gone_counts = not (agrees meeting task.name);
}

abbrev pub found_of : Meeting → List ℕ → Finding
found_of meeting name = found meeting (task_of meeting name)

-- by whichever sides it goes
abbrev pub action_at : Meeting → List ℕ → Action
action_at meeting name = action_or_sync (task_of meeting name).action

-- all of it is read, or what is passed over is honest
abbrev pub IsTaskShown : Meeting → Task → Type 0
IsTaskShown meeting task =
    is_fast meeting task ≡ true → IsHonest (base_rows task) (records_of task.handheld)

-- the end of its session, where its new records get these ids
abbrev pub ended_of : Meeting → List ℕ → List ℕ → Ending
ended_of meeting name given = ended (action_at meeting name) (found_of meeting name) given

-- ---- the next one

-- the same is asked, but for the date
pub record AsksTheSame (meeting next : Meeting) : Type 0 where
  pub actions : next.wishes.actions.items ≡ meeting.wishes.actions.items
  pub slow : next.wishes.slow ≡ meeting.wishes.slow

-- the desktop has a number, and the handheld's mark says that a session was under way
pub record IsUnderWay (next : Meeting) : Type 0 where
  pub handheld : next.device.user.pc ≡ 0
  pub desktop : 0 < (slot_of next).marks.pc

-- what the next meeting finds where a session stopped before the desktop's commit: of each database
-- the handheld has so many of the replacements and adds, with the ids that these got, and the
-- desktop is as it was
pub record LeftAmongNews (meeting next : Meeting) (given : List ℕ → List ℕ)
    (count : List ℕ → ℕ) : Type 0 where
  pub asks : AsksTheSame meeting next
  pub marks : IsUnderWay next
  pub slot : slot_of next ≡ slot_of meeting
  pub records : (name : List ℕ) → records_of (task_of next name).handheld
      ≡ after (news_done (action_at meeting name) (found_of meeting name) (given name)
      (count name)) (found_of meeting name).records

-- the desktop has the merge of a database
pub record IsMergedAt (next : Meeting) (name : List ℕ) (end : Ending) : Type 0 where
  pub there : is_some (task_of next name).rows ≡ true
  pub rows : records_of (task_of next name).rows ≡ end.rows
  pub base : records_of (task_of next name).base ≡ end.base
  pub archive : entries_of (records_of (task_of next name).archive) ≡ end.archive

-- what it finds behind the commit: of each database the handheld has what it was given, and so many
-- of the purges, the clean up and the reset, and the desktop is merged
pub record LeftBehindCommit (meeting next : Meeting) (given : List ℕ → List ℕ) (count : List ℕ → ℕ)
    (name : List ℕ) : Type 0 where
  pub asks : AsksTheSame meeting next
  pub marks : IsUnderWay next
  pub merged : IsMergedAt next name
      (ended (action_at meeting name) (found_of meeting name) (given name))
  pub records : records_of (task_of next name).handheld
      ≡ after (giving (chosen (action_at meeting name) (found_of meeting name))
      (shown (found_of meeting name)) (given name)
      ++ clearing_done (action_at meeting name) (found_of meeting name) (count name))
      (found_of meeting name).records

-- what it finds behind the whole session
pub record LeftAtEnd (meeting next : Meeting) (given : List ℕ → List ℕ)
    (name : List ℕ) : Type 0 where
  pub asks : AsksTheSame meeting next
  pub merged : IsMergedAt next name
      (ended (action_at meeting name) (found_of meeting name) (given name))
  pub records : records_of (task_of next name).handheld
      ≡ (ended (action_at meeting name) (found_of meeting name) (given name)).records

-- ---- one after another

-- a meeting finds a database where the session before it stopped at this place
pub record Follows (meeting next : Meeting) (name : List ℕ) (place : Place) : Type 0 where
  pub action : action_at next name ≡ action_at meeting name
  pub finds : found_of next name ≡ left (action_at meeting name) (found_of meeting name) place

abbrev pub AllFollow : Meeting → List ℕ → List (Meeting × Place) → Type 0
AllFollow meeting name [] = Unit {0}
AllFollow meeting name (e ∷ es) = Follows meeting e.0 name e.1 × AllFollow e.0 name es

abbrev pub last_of : Meeting → List (Meeting × Place) → Meeting
last_of meeting [] = meeting
last_of meeting (e ∷ es) = last_of e.0 es

abbrev pub places_of : List (Meeting × Place) → List Place
places_of es = map (λ (e : Meeting × Place). e.1) es

-- behind a whole session, as the next meeting reads it
abbrev pub place_ended : Meeting → List ℕ → List ℕ → Place
place_ended next name given = at_end given (view next (task_of next name)) (not (agrees next name))

-- Meetings find a database, each where the one before it stopped, and in the last each new record
-- gets one of these ids; nothing had any id that stands in the end.
pub record AreMeetings (meeting : Meeting) (name : List ℕ) (es : List (Meeting × Place))
    (later : List ℕ) : Type 0 where
  pub follow : AllFollow meeting name es
  pub read : IsRead (found_of meeting name)
  pub stops : AreStops (action_at meeting name) (found_of meeting name) (places_of es)
  pub got : GotAllIds (action_at meeting name) (found_of (last_of meeting es) name) later
  pub unknown : AreUnknown (found_of meeting name)
      (all_ids (action_at meeting name) (places_of es) later)

-- the last one's session ends as that of the first would have ended, whichever ids this would have
-- given to its new records
abbrev pub EndsAsFirst : Meeting → Meeting → List ℕ → List ℕ → Type 0
EndsAsFirst meeting last name later =
    (new : List ℕ) → GotNewIds (action_at meeting name) (found_of meeting name) new
    → SameEnds (found_of meeting name) (ended_of last name later) (ended_of meeting name new)

-- ---- the ids that are dealt out to a name

-- the databases of a session get their ids in order, each as many as it has adds
abbrev pub ids_dealt : Meeting → List Task → List ℕ → List ℕ → List ℕ
ids_dealt meeting [] given name = []
ids_dealt meeting (task ∷ later) given name =
    if bytes_eq task.name name then take (add_count meeting task) given else ids_dealt meeting later
    (drop (add_count meeting task) given) name

-- ---- a whole session

-- a database of a meeting that isn't skipped
pub record IsActive (meeting : Meeting) (name : List ℕ) : Type 0 where
  pub there : list_any (λ other. bytes_eq other name) (names meeting) ≡ true
  pub kept : is_none (skip_of (task_of meeting name)) ≡ true

-- the next meeting finds both sides merged
pub record LeftMerged (meeting next : Meeting) (given : List ℕ) : Type 0 where
  pub asks : AsksTheSame meeting next
  pub databases : next.device.databases ≡ (merged_device meeting given).databases
  pub slot : slot_of next ≡ merged_slot meeting given

-- what both sides hold under a name
abbrev pub holding : Device → SlotValue → List ℕ → Ending
holding device slot name = record {
  records = records_of (database_of name device.databases);
  rows = records_of (database_of name slot.shelves.rows);
  base = records_of (database_of name slot.shelves.bases);
  archive = entries_of (records_of (database_of name slot.shelves.archives));
}

-- what they hold once a meeting has ended
abbrev pub holding_after : Meeting → List ℕ → List ℕ → Ending
holding_after meeting given name =
    holding (merged_device meeting given) (merged_slot meeting given) name

-- the ids that a name got of them
abbrev pub ids_at : Meeting → List ℕ → List ℕ → List ℕ
ids_at meeting given name = ids_dealt meeting (active meeting) given name

-- the merge of a database, where a session's new records got these
abbrev pub merge_at : Meeting → List ℕ → List ℕ → Ending
merge_at meeting given name = ended_of meeting name (ids_at meeting given name)

-- each new record of a database got one of them
abbrev pub GotAllAt : Meeting → List ℕ → List ℕ → Type 0
GotAllAt meeting given name =
    GotAllIds (action_at meeting name) (found_of meeting name) (ids_at meeting given name)

-- meetings as above, of which neither the first nor the last skips the database
pub record AreWholeMeetings (meeting : Meeting) (name : List ℕ) (es : List (Meeting × Place))
    (later : List ℕ) : Type 0 where
  pub first : IsActive meeting name
  pub last : IsActive (last_of meeting es) name
  pub meetings : AreMeetings meeting name es (ids_at (last_of meeting es) later name)

-- both sides hold behind the last one what they would hold behind the first, whichever ids this
-- would have given to its new records
abbrev pub HoldsAsFirst : Meeting → Meeting → List ℕ → List ℕ → Type 0
HoldsAsFirst meeting last name later =
    (new : List ℕ)
    → GotNewIds (action_at meeting name) (found_of meeting name) (ids_at meeting new name)
    → SameEnds (found_of meeting name) (holding_after last later name)
    (holding_after meeting new name)

-- ---- no database is skipped that wasn't

-- a head that is like another in what sessions look at: what its attributes say of resources,
-- writing and streams, type and creator
pub record IsLike (head other : DbHead) : Type 0 where
  pub resources : holds_resources head.attributes ≡ holds_resources other.attributes
  pub read_only : is_read_only head.attributes ≡ is_read_only other.attributes
  pub stream : is_stream head.attributes ≡ is_stream other.attributes
  pub kind : head.kind.0 ≡ other.kind.0
  pub creator : head.creator.0 ≡ other.creator.0

-- a side's head is like the one that it had, or, where it had none, like the other side's
abbrev pub IsLikeFirst : Option DbHead → Option DbHead → Option DbHead → Type 0
IsLikeFirst own other None = Unit {0}
IsLikeFirst (Some head) other (Some now) = IsLike now head
IsLikeFirst None (Some head) (Some now) = IsLike now head
IsLikeFirst None None (Some now) = ⊥

-- what the next meeting finds under a name: such heads, a side that had the database still has it,
-- and base rows only where there were some or both sides have it
pub record StandsLike (meeting next : Meeting) (name : List ℕ) : Type 0 where
  pub action : (task_of next name).action ≡ (task_of meeting name).action
  pub handheld : IsLikeFirst (head_of (task_of meeting name).handheld)
      (head_of (task_of meeting name).rows) (head_of (task_of next name).handheld)
  pub rows : IsLikeFirst (head_of (task_of meeting name).rows)
      (head_of (task_of meeting name).handheld) (head_of (task_of next name).rows)
  pub has_handheld : is_none (head_of (task_of next name).handheld) ≡ true
      → is_none (head_of (task_of meeting name).handheld) ≡ true
  pub has_rows : is_none (head_of (task_of next name).rows) ≡ true
      → is_none (head_of (task_of meeting name).rows) ≡ true
  pub has_base : (is_none (head_of (task_of next name).handheld)
      && is_some (task_of next name).base) ≡ true → is_some (task_of meeting name).base ≡ true
