-- What a session would cost the desktop, by planned databases that are those of a meeting.
use Rattle.std.proofs.Common.{◌≡◌, ◌∙◌, ◌||◌, ◌++◌, ap, refl, ℕ, Bool, true, false, List, [], ◌∷◌, map, Option, Some, None}
use Rattle.std.specs.Prelude.{◌&&◌, filter, find, if◌then◌else◌, is_none}
use Rattle.std.specs.List.{list_any}
use Rattle.std.specs.Option.{option_map}
use Rattle.pdb_values.specs.NamedDatabases.{database_of}
use Rattle.folder_files.specs.Partings.{parting_of}
use Rattle.sync_session.proofs.MeetingWords.{AreEachPlannedFor, ArePlannedFor, IsPlannedFor, Job, Meeting, Planned, ShelvesValue, Skip, Task}
use Rattle.sync_session.proofs.MeetingWords.{action_or_sync, active, base_rows_by, choice}
use Rattle.sync_session.proofs.MeetingWords.{is_sync, names, records_of, skip_of, slot_of, task_of, tasks}
use Rattle.sync_session.proofs.ReadJoins.{job-skip}
use Rattle.session_plan.specs.Archives.{entries_of}
use Rattle.session_plan.specs.Losses.{first_loss, has_lost_all, is_loss, is_lost, is_stranger}
use Rattle.session_plan.specs.Partings.{is_unmet}
use Rattle.session_plan.specs.PlannedLosses.{is_loss_planned, loss_planned}

-- ---- one database

loss_by : (s t : Option Skip) (b c : Bool) → s ≡ t → (t ≡ None → b ≡ c) → (is_none s && b) ≡ (is_none t && c)
loss_by s None b c same on = rw (same, on refl)
loss_by s (Some skip) b c same on = rw same

-- a planned database is a loss
abbrev is_loss_of : Meeting → Planned → Bool
is_loss_of meeting one = is_loss_planned meeting.device.user (slot_of meeting).marks (slot_of meeting).parted (slot_of meeting).shelves one

loss-is : (meeting : Meeting) (name : List ℕ) (one : Planned) → IsPlannedFor meeting (task_of meeting name) one
    → is_loss_of meeting one ≡ (is_none (skip_of (task_of meeting name)) && is_loss meeting (task_of meeting name))
unfolding choice
loss-is meeting name one for =
    let task : Task = task_of meeting name in
    let shelves : ShelvesValue = (slot_of meeting).shelves in
    loss_by one.job.skip (skip_of task) _ _ (ap (λ (j : Job). j.skip) for.job ∙ job-skip meeting task)
    (λ none. λ k. is_sync (action_or_sync (for.job k).action)
    && (((is_stranger meeting || is_unmet (parting_of (for.job k).name (slot_of meeting).parted))
    || has_lost_all (base_rows_by (database_of (for.job k).name shelves.rows) (database_of (for.job k).name shelves.bases)) (for.seen none k))
    && list_any (is_lost ((for.plan none).kept k) ((for.plan none).adds k)
    (entries_of (records_of (database_of (for.job k).name shelves.archives)) ++ (for.plan none).archive k))
    (records_of (database_of (for.job k).name shelves.rows))))

-- ---- the first of them

-- a list of tasks of which the first may be skipped
found_if : (meeting : Meeting) (a b : Bool) (one : Planned) (rest : Option Planned) (task : Task) (later : List Task)
    → a ≡ (b && is_loss meeting task) → one.job.name ≡ task.name
    → option_map (λ (x : Planned). x.job.name) rest ≡ option_map (λ (t : Task). t.name) (find (is_loss meeting) later)
    → option_map (λ (x : Planned). x.job.name) (if a then Some one else rest)
    ≡ option_map (λ (t : Task). t.name) (find (is_loss meeting) (if b then task ∷ later else later))
found_if meeting a false one rest task later is named on = rw is on
found_if meeting a true one rest task later is named on = by (is_loss meeting task) is
  where
    by : (c : Bool) → a ≡ c
        → option_map (λ (x : Planned). x.job.name) (if a then Some one else rest)
        ≡ option_map (λ (t : Task). t.name) (if c then Some task else find (is_loss meeting) later)
    by true is = rw is (ap Some named)
    by false is = rw is on

losses_each : (meeting : Meeting) (all : List (List ℕ)) (planned : List Planned) → AreEachPlannedFor meeting (map (task_of meeting) all) planned
    → option_map (λ (x : Planned). x.job.name) (find (is_loss_of meeting) planned)
    ≡ option_map (λ (t : Task). t.name) (find (is_loss meeting) (filter (λ task. is_none (skip_of task)) (map (task_of meeting) all)))
losses_each meeting [] [] each = refl
losses_each meeting (name ∷ all) (one ∷ planned) each =
    found_if meeting (is_loss_of meeting one) (is_none (skip_of (task_of meeting name))) one
    (find (is_loss_of meeting) planned) (task_of meeting name)
    (filter (λ task. is_none (skip_of task)) (map (task_of meeting) all)) (loss-is meeting name one each.0)
    (ap (λ (j : Job). j.name) each.0.job) (losses_each meeting all planned each.1)
losses_each meeting all planned each = absurd each

-- the first planned database by which the session would cost live rows is the first one of the meeting
pub loss_is_first_loss : (meeting : Meeting) (planned : List Planned) → ArePlannedFor meeting planned
    → loss_planned meeting.device.user (slot_of meeting).marks (slot_of meeting).parted (slot_of meeting).shelves planned ≡ first_loss meeting
unfolding loss_planned first_loss active tasks
loss_is_first_loss meeting planned each = losses_each meeting (names meeting) planned each
