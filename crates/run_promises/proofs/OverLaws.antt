-- Whether a limit would be passed depends on both sides and on what is asked, not on the date.
use Rattle.std.proofs.Common.{arith, ◌≡◌, refl, ℕ, Bool, List, [], ◌∷◌, length}
use Rattle.std.specs.Global.{Vec}
use Rattle.pdb_values.specs.declared.user.UserInfo.{UserInfo}
use Rattle.palm_device.specs.Handles.{no_handles}
use Rattle.desk_store.specs.Desks.{all_rows}
use Rattle.desk_store.specs.Shelves.{SlotValue}
use Rattle.run_words.specs.declared.action.NamedAction.{NamedAction}
use Rattle.desktop_session.specs.Seats.{no_wish}
use Rattle.session_plan.specs.Choosing.{agrees, choice, is_fast, sides, view}
use Rattle.session_plan.specs.Limits.{first_behind, first_over, sizes_of, with_one}
use Rattle.session_plan.specs.Skips.{active}
use Rattle.session_plan.specs.Tasks.{Meeting, Task, tasks}

-- two meetings of the same sides, which ask the same but for the date and whether a user may be added
pub record MeetsTheSame (meeting next : Meeting) : Type 0 where
  pub databases : next.device.databases ≡ meeting.device.databases
  pub user : next.device.user ≡ meeting.device.user
  pub slots : next.slots ≡ meeting.slots
  pub picked : next.picked ≡ meeting.picked
  pub actions : next.wishes.actions.items ≡ meeting.wishes.actions.items
  pub slow : next.wishes.slow ≡ meeting.wishes.slow

tasks-same : {meeting next : Meeting} → MeetsTheSame meeting next → active next ≡ active meeting
unfolding active tasks
tasks-same same = grind arith

-- the meeting of these, with what the sizes of a database don't look at left empty
abbrev bare : UserInfo → List SlotValue → ℕ → Bool → Vec NamedAction → Meeting
bare user slots picked slow actions = record {
  device = record { databases = []; user = user; handles = no_handles };
  slots = slots;
  picked = picked;
  wishes = record { date = 0; slow = slow; user = no_wish; actions = actions };
}

sizes-bare : (meeting : Meeting) (actions : Vec NamedAction) (h d : ℕ) (task : Task)
    → sizes_of meeting h d task ≡ sizes_of (bare meeting.device.user meeting.slots meeting.picked meeting.wishes.slow actions) h d task
unfolding choice sides view is_fast agrees
sizes-bare meeting actions h d task = refl

module _ {meeting next : Meeting} (same : MeetsTheSame meeting next) where
  sizes-same : (h d : ℕ) (task : Task) → sizes_of next h d task ≡ sizes_of meeting h d task
  sizes-same h d task = grind (arith, sizes-bare next next.wishes.actions h d task, sizes-bare meeting next.wishes.actions h d task)

  behind-same : (h d : ℕ) (ts : List Task) → first_behind next h d ts ≡ first_behind meeting h d ts
  unfolding first_behind
  behind-same h d [] = refl
  behind-same h d (t ∷ ts) = grind (arith, sizes-same h d t, behind-same (with_one t.handheld h) (with_one t.rows d) ts)

  pub over-same : first_over next ≡ first_over meeting
  unfolding first_over
  over-same = grind (arith, tasks-same same, behind-same (length meeting.device.databases) (all_rows meeting.slots) (active meeting))
