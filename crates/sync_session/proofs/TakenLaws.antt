-- What the desktop takes at a meeting is the merge of its databases.
use Rattle.std.proofs.Common.{◌≡◌, ◌∙◌, ap, refl, sym, subst, ℕ, zero, suc, false, List, [], ◌∷◌, ◌++◌, map, filter, length}
use Rattle.std.specs.Prelude.{IfSome, Option, Some, None, if◌then◌else◌, is_none, slice_index_or, slice_set, is_some}
use Rattle.std.specs.List.{AllByRecursion, flat_map, list_any}
use Rattle.std.specs.Str.{bytes_eq}
use Rattle.std.proofs.Math.Seq.{drop-append_seam, take-append_seam}
use Rattle.std.proofs.lemmas.Bool.{or_parts}
use Rattle.sync_session.proofs.MeetingWords.{DatabaseValue, IsPlan, Plan, AreInOrder, AreOrdered, ShelvesValue, SlotValue, new_slot, number_of, with_place}
use Rattle.sync_session.proofs.MeetingWords.{action_or_sync, choice, sides, AreEachPlannedFor, ArePlannedFor, IsPlannedFor, listed_head, active, skip_of}
use Rattle.sync_session.proofs.MeetingWords.{Meeting, Task, names, records_of, slot_of, task_of, tasks, Planned, Skip, Job}
use Rattle.pdb_values.specs.declared.record.Record.{Record}
use Rattle.pdb_values.proofs.NamedLaws.{database_of-name}
use Rattle.palm_device.specs.Blocks.{empty_database}
use Rattle.palm_device.specs.Records.{with_records}
use Rattle.record_merge.specs.Merging.{one_copy_behind}
use Rattle.desk_store.specs.Changes.{with_change, with_changes}
use Rattle.desk_store.specs.declared.change.DbChange.{DbChange}
use Rattle.desk_store.proofs.ChangedLaws.{ordered_changes}
use Rattle.session_plan.specs.Archives.{archive_records, entries_of}
use Rattle.sync_session.specs.Given.{AreDealtTo}
use Rattle.session_plan.specs.Heads.{rows_head}
use Rattle.session_plan.specs.Merges.{DesktopMerge, archive_of, beside, merged_of, merged_shelves, merged_slot, merged_slots, rows_before, shelve, shelved, parted_met}
use Rattle.session_plan.specs.Choosing.{add_count}
use Rattle.session_plan.specs.Takes.{change_from, change_of, change_unless, changes_of, planned_archive, planned_change, rows_begun, taken_slots}
use Rattle.session_plan.specs.Users.{done_of}
use Rattle.sync_session.proofs.NewsJoins.{no_ids}
use Rattle.sync_session.proofs.OnceLaws.{Once, names-once, bytes_eq-swap}
use Rattle.sync_session.proofs.ReadJoins.{job-skip}
use Rattle.session_plan.proofs.RowLaws.{base-merged, rows-merged}
use Rattle.sync_session.proofs.SwapLaws.{HasName, HasOther, with_changes-first}
use Rattle.desk_journal.proofs.StepLaws.{all-append}
use Rattle.session_plan.specs.Partings.{parted_planned, parting_by, with_parting}
use Rattle.folder_files.specs.Partings.{parting_of}
use Rattle.session_plan.specs.Losses.{is_stranger}
use Rattle.pdb_values.specs.NamedDatabases.{database_of}

-- ---- one database

rows_same : (date : ℕ) (rows handheld : Option DatabaseValue) → rows_begun date rows (listed_head handheld) ≡ rows_before date rows handheld
rows_same date (Some d) handheld = refl
rows_same date None (Some d) = refl
rows_same date None None = refl

-- the rows that a merge of a meeting's database changes
abbrev pub rows_at : Meeting → List ℕ → Option DatabaseValue
rows_at meeting name = rows_before meeting.wishes.date (task_of meeting name).rows (task_of meeting name).handheld

abbrev pub old_at : Meeting → List ℕ → List Record
old_at meeting name = records_of (task_of meeting name).archive

-- a planned database of a meeting changes as its task says
pub change-task : (meeting : Meeting) (name : List ℕ) (one : Planned) (given : List ℕ) → IsPlannedFor meeting (task_of meeting name) one
    → change_of meeting.wishes.date (slot_of meeting).shelves one given
    ≡ change_unless (skip_of (task_of meeting name)) (change_from one.plan given (old_at meeting name) (rows_at meeting name))
unfolding change_of
change-task meeting name one given is =
    let task : Task = task_of meeting name in
    rw (is.job, job-skip meeting task, rows_same meeting.wishes.date task.rows task.handheld)

-- a merge, as a change
abbrev of_merged : DesktopMerge → DbChange
of_merged merged = record { rows = merged.rows; base = merged.base; archive = merged.archive }

shelved_by : (rows base : DatabaseValue) (archive : Option DatabaseValue) (shelves : ShelvesValue)
    → with_change (record { rows = rows; base = base; archive = archive }) shelves ≡ shelved (record { rows = rows; base = base; archive = archive }) shelves
shelved_by rows base None shelves = refl
shelved_by rows base (Some archive) shelves = refl

planned-merged : (meeting : Meeting) (task : Task) (plan : Plan) (given : List ℕ) (rows : DatabaseValue)
    → IsPlan (action_or_sync task.action) (sides meeting task) plan
    → planned_change plan given (records_of task.archive) rows ≡ of_merged (merged_of meeting task given rows)
unfolding choice
planned-merged meeting task plan given rows is =
    let one = rows-merged (action_or_sync task.action) (sides meeting task) plan given is in
    let two = base-merged (action_or_sync task.action) (sides meeting task) plan given is in
    λ k. record {
      rows = with_records (one k) rows;
      base = beside rows (two k);
      archive = archive_of rows (archive_records (one_copy_behind [] (entries_of (records_of task.archive) ++ is.archive k)));
    }

change-merged : (meeting : Meeting) (task : Task) (plan : Plan) (given : List ℕ) (rows : DatabaseValue) (shelves : ShelvesValue)
    → IsPlan (action_or_sync task.action) (sides meeting task) plan
    → with_change (planned_change plan given (records_of task.archive) rows) shelves ≡ shelved (merged_of meeting task given rows) shelves
change-merged meeting task plan given rows shelves is =
    let merged : DesktopMerge = merged_of meeting task given rows in
    ap (λ change. with_change change shelves) (planned-merged meeting task plan given rows is)
    ∙ shelved_by merged.rows merged.base merged.archive shelves

-- ---- names

named_archive : (name : List ℕ) (rows : DatabaseValue) (es : List Record) → rows.head.name ≡ name
    → IfSome (archive_of rows es) (λ archive. archive.head.name ≡ name)
named_archive name rows [] is = tt
named_archive name rows (e ∷ es) is = is

pub planned_name : (name : List ℕ) (plan : Plan) (given : List ℕ) (old : List Record) (rows : DatabaseValue) → rows.head.name ≡ name
    → HasName name (planned_change plan given old rows)
planned_name name plan given old rows is = record { rows = is; base = is; archive = named_archive name rows (planned_archive plan old) is }

named_by : (name : List ℕ) (date : ℕ) (old handheld : Option DatabaseValue) (rows : DatabaseValue) → ((d : DatabaseValue) → old ≡ Some d → d.head.name ≡ name)
    → ((d : DatabaseValue) → handheld ≡ Some d → d.head.name ≡ name) → rows_before date old handheld ≡ Some rows → rows.head.name ≡ name
named_by name date (Some d) handheld rows desktop other is = let same : d ≡ rows = cc in rw same at (desktop d refl)
named_by name date None (Some d) rows desktop other is =
    let same : empty_database (rows_head date d.head) ≡ rows = cc in
    rw (← same) (other d refl)
named_by name date None None rows desktop other is = absurd (cc)

pub rows_name : (meeting : Meeting) (name : List ℕ) (rows : DatabaseValue) → rows_at meeting name ≡ Some rows → rows.head.name ≡ name
rows_name meeting name rows is =
    named_by name meeting.wishes.date (task_of meeting name).rows (task_of meeting name).handheld rows
    (λ d e. database_of-name name (slot_of meeting).shelves.rows d e) (λ d e. database_of-name name meeting.device.databases d e) is

-- the changes of a database, by whether it is skipped and has rows
others_by : (name own : List ℕ) (s : Option Skip) (plan : Plan) (given : List ℕ) (old : List Record) (rows : Option DatabaseValue)
    → bytes_eq name own ≡ false → ((d : DatabaseValue) → rows ≡ Some d → d.head.name ≡ own)
    → AllByRecursion (HasOther name) (change_unless s (change_from plan given old rows))
others_by name own (Some skip) plan given old rows apart named = tt
others_by name own None plan given old None apart named = tt
others_by name own None plan given old (Some d) apart named =
    (record { own = own; named = planned_name own plan given old d (named d refl); apart = apart }, tt)

-- ---- all databases

none_go : (meeting : Meeting) (shelves : ShelvesValue) (given : List ℕ) → shelves ≡ merged_shelves meeting [] given shelves
unfolding merged_shelves
none_go meeting shelves given = refl

module _ (meeting : Meeting) where
  abbrev changes_for : List Planned → List (List ℕ) → List DbChange
  changes_for planned ids = changes_of meeting.wishes.date (slot_of meeting).shelves planned ids

  abbrev kept_tasks : List (List ℕ) → List Task
  kept_tasks ns = filter (λ task. is_none (skip_of task)) (map (task_of meeting) ns)

  abbrev all_ids : List (List ℕ) → List ℕ
  all_ids ids = flat_map (λ (one : List ℕ). one) ids

  -- what databases make, behind those before them
  abbrev Goes : List (List ℕ) → List Planned → List (List ℕ) → Type 0
  Goes ns planned ids =
      (shelves : ShelvesValue) → AreOrdered shelves
      → with_changes (changes_for planned ids) shelves ≡ merged_shelves meeting (kept_tasks ns) (all_ids ids) shelves

  -- changes of other databases
  others-all : (name : List ℕ) (ns : List (List ℕ)) (planned : List Planned) (ids : List (List ℕ))
      → list_any (λ other. bytes_eq other name) ns ≡ false → AreEachPlannedFor meeting (map (task_of meeting) ns) planned
      → AllByRecursion (HasOther name) (changes_for planned ids)
  unfolding changes_of
  others-all name [] [] ids none are = tt
  others-all name (n ∷ ns) (one ∷ planned) [] none are = tt
  others-all name (n ∷ ns) (one ∷ planned) (given ∷ ids) none are =
      all-append (HasOther name) (change_of meeting.wishes.date (slot_of meeting).shelves one given) (changes_for planned ids)
      (subst (AllByRecursion (HasOther name)) (sym (change-task meeting n one given are.0))
      (others_by name n (skip_of (task_of meeting n)) one.plan given (old_at meeting n) (rows_at meeting n)
      (bytes_eq-swap n name (or_parts (bytes_eq n name) _ none).0) (λ d e. rows_name meeting n d e)))
      (others-all name ns planned ids (or_parts (bytes_eq n name) _ none).1 are.1)
  others-all name ns planned ids none are = absurd are

  seams : (task : Task) (later : List Task) (given more : List ℕ) (shelves : ShelvesValue) → length given ≡ add_count meeting task
      → merged_shelves meeting (task ∷ later) (given ++ more) shelves
      ≡ merged_shelves meeting later more (shelve meeting task given (rows_before meeting.wishes.date task.rows task.handheld) shelves)
  unfolding merged_shelves
  seams task later given more shelves count = rw (← count, take-append_seam given more, drop-append_seam given more)

  module _ (n : List ℕ) (ns : List (List ℕ)) (one : Planned) (given : List ℕ) (planned : List Planned) (ids : List (List ℕ))
      (others : AllByRecursion (HasOther n) (changes_for planned ids)) (goes : Goes ns planned ids) where
    rows_go : (rows : Option DatabaseValue) (shelves : ShelvesValue) → rows_at meeting n ≡ rows
        → IsPlan (action_or_sync (task_of meeting n).action) (sides meeting (task_of meeting n)) one.plan → AreOrdered shelves
        → with_changes (change_from one.plan given (old_at meeting n) rows ++ changes_for planned ids) shelves
        ≡ merged_shelves meeting (kept_tasks ns) (all_ids ids) (shelve meeting (task_of meeting n) given rows shelves)
    rows_go None shelves is plan ordered = goes shelves ordered
    rows_go (Some rows) shelves is plan ordered =
        let change : DbChange = planned_change one.plan given (old_at meeting n) rows in
        with_changes-first n change (changes_for planned ids) shelves
        (planned_name n one.plan given (old_at meeting n) rows (rows_name meeting n rows is)) others ordered
        ∙ goes (with_change change shelves) (ordered_changes (change ∷ []) shelves ordered)
        ∙ ap (merged_shelves meeting (kept_tasks ns) (all_ids ids)) (change-merged meeting (task_of meeting n) one.plan given rows shelves plan)

    one_goes : (s : Option Skip) → skip_of (task_of meeting n) ≡ s → IsPlannedFor meeting (task_of meeting n) one
        → length given ≡ (if is_none s then add_count meeting (task_of meeting n) else 0) → (shelves : ShelvesValue) → AreOrdered shelves
        → with_changes (change_unless s (change_from one.plan given (old_at meeting n) (rows_at meeting n)) ++ changes_for planned ids) shelves
        ≡ merged_shelves meeting (if is_none s then task_of meeting n ∷ kept_tasks ns else kept_tasks ns) (given ++ all_ids ids) shelves
    one_goes (Some skip) skips is count shelves ordered =
        goes shelves ordered ∙ ap (λ front. merged_shelves meeting (kept_tasks ns) (front ++ all_ids ids) shelves) (sym (no_ids given count))
    one_goes None skips is count shelves ordered =
        rows_go (rows_at meeting n) shelves refl (is.plan skips) ordered
        ∙ sym (seams (task_of meeting n) (kept_tasks ns) given (all_ids ids) shelves count)

  shelves-taken : (ns : List (List ℕ)) (planned : List Planned) (ids : List (List ℕ)) → Once ns
      → AreEachPlannedFor meeting (map (task_of meeting) ns) planned → AreDealtTo meeting (map (task_of meeting) ns) ids → Goes ns planned ids
  unfolding changes_of
  shelves-taken [] [] [] once are deals shelves ordered = none_go meeting shelves []
  shelves-taken (n ∷ ns) (one ∷ planned) (given ∷ ids) once are deals shelves ordered =
      ap (λ front. with_changes (front ++ changes_for planned ids) shelves) (change-task meeting n one given are.0)
      ∙ one_goes n ns one given planned ids (others-all n ns planned ids once.0 are.1)
      (shelves-taken ns planned ids once.1 are.1 deals.1) (skip_of (task_of meeting n)) refl are.0 deals.0 shelves ordered
  shelves-taken [] (one ∷ planned) ids once are deals shelves ordered = absurd are
  shelves-taken (n ∷ ns) [] ids once are deals shelves ordered = absurd are
  shelves-taken ns planned ids once are deals shelves ordered = absurd deals

-- ---- the slots

ordered_at : (slots : List SlotValue) (place : ℕ) (other : SlotValue) → AreInOrder slots → AreOrdered other.shelves
    → AreOrdered (slice_index_or slots place other).shelves
ordered_at [] place other ordered behind = behind
ordered_at (slot ∷ slots) zero other ordered behind = ordered.0
ordered_at (slot ∷ slots) (suc place) other ordered behind = ordered_at slots place other ordered.1 behind

-- what it keeps of the databases that took no part is what the meeting keeps
parted-taken : (meeting : Meeting) (ns : List (List ℕ)) (planned : List Planned) → AreEachPlannedFor meeting (map (task_of meeting) ns) planned
    → parted_planned (is_stranger meeting) (slot_of meeting).shelves (slot_of meeting).parted planned
    ≡ parted_met meeting (map (task_of meeting) ns)
parted-taken meeting [] [] are = refl
parted-taken meeting (n ∷ ns) (one ∷ planned) are =
    let task : Task = task_of meeting n in
    let slot : SlotValue = slot_of meeting in
    let skip : one.job.skip ≡ skip_of task = ap (λ (job : Job). job.skip) are.0.job ∙ job-skip meeting task in
    λ k. with_parting (are.0.job k).name
    (parting_by (is_stranger meeting) (is_some (database_of (are.0.job k).name slot.shelves.bases)) (parting_of (are.0.job k).name slot.parted)
    (skip k)) (parted-taken meeting ns planned are.1 k)
parted-taken meeting [] (one ∷ planned) are = absurd are
parted-taken meeting (n ∷ ns) [] are = absurd are

-- what the picked slot takes, with its ids dealt out to its databases, is the merge
pub taken-merged : (meeting : Meeting) (planned : List Planned) (ids : List (List ℕ)) → AreInOrder meeting.slots → ArePlannedFor meeting planned
    → AreDealtTo meeting (tasks meeting) ids
    → taken_slots (done_of meeting) meeting.device.user planned ids meeting.picked meeting.slots
    ≡ merged_slots meeting (flat_map (λ (one : List ℕ). one) ids)
unfolding taken_slots merged_slots merged_slot tasks active
taken-merged meeting planned ids ordered are deals =
    let first : AreOrdered (slot_of meeting).shelves
    = ordered_at meeting.slots meeting.picked (new_slot (number_of meeting.slots)) ordered (record { rows = tt; bases = tt; archives = tt }) in
    let parted = parted-taken meeting (names meeting) planned are in
    let shelves = shelves-taken meeting (names meeting) planned ids (names-once meeting) are deals (slot_of meeting).shelves first in
    λ k. slice_set (with_place meeting.slots meeting.picked) meeting.picked (record {
      marks = done_of meeting;
      parted = parted k;
      shelves = shelves k;
    })
