-- What a run leaves whose session ended: the same on both sides.
use Rattle.std.specs.Prelude.{ℕ, List}
use Rattle.desk_store.specs.Shelves.{slot_at}
use Rattle.session_plan.specs.Merges.{merged_device, merged_slots}
use Rattle.session_plan.specs.Tasks.{Meeting}
use Rattle.front_laws.specs.Meetings.{IsActive, holding}
use Rattle.front_laws.specs.Equal.{HasEqualSides, IsShownWhole}
use Rattle.run_promises.specs.RunCalls.{RunCall}
use Rattle.call_parts.specs.LineRuns.{log_in}

-- Of each database that wasn't skipped and was shown whole, the handheld of the merge and the slot
-- of its user there hold the same records, live and unmarked; the merge is that under the ids that
-- new records got.
abbrev pub AreEqualBehind : Meeting → RunCall → Type 0
AreEqualBehind meeting call =
    (name : List ℕ) → IsActive meeting name → IsShownWhole meeting name
    → HasEqualSides (holding (merged_device meeting (log_in call.report).given)
    (slot_at (merged_slots meeting (log_in call.report).given) meeting.picked) name)
