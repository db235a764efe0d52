-- Planned databases that are those of a meeting: from what was seen, their sizes, and what is told of them.
use Rattle.std.proofs.Common.{◌≡◌, ◌∙◌, ◌<◌, ◌≤◌, ◌+◌, ◌-◌, ap, refl, sym, ℕ, Bool, true, false, List, [], ◌∷◌, ◌++◌, length, map}
use Rattle.std.proofs.Common.{Option, Some, None, arith}
use Rattle.std.proofs.Math.Nat.{min-eq_left}
use Rattle.std.proofs.lemmas.Bool.{or_parts}
use Rattle.std.proofs.lemmas.Bool.Decides.{nat_tests}
use Rattle.std.specs.Prelude.{filter, if◌then◌else◌, is_none, is_some, nat_lt}
use Rattle.std.specs.List.{AllByRecursion}
use Rattle.std.specs.Option.{option_map}
use Rattle.sync_session.proofs.MeetingWords.{ContentValue, DatabaseValue, kept_rows, lost, purged_at, purged_ids, replaced_rows, replacement, Job, Planned}
use Rattle.sync_session.proofs.MeetingWords.{Skip, action_or_sync, base_rows, choice, is_fast, seen_held, view, AreEachPlannedFor, ArePlannedFor, IsPlannedFor, active, skip_of}
use Rattle.sync_session.proofs.MeetingWords.{Meeting, Task, names, records_of, slot_of, task_of, tasks, ShelvesValue, agrees, sides, job_for}
use Rattle.pdb_values.specs.NamedDatabases.{database_of}
use Rattle.pdb_values.specs.declared.record.Record.{Record}
use Rattle.pdb_values.proofs.NamedLaws.{AllByRecursion-database_of}
use Rattle.palm_device.specs.Bounds.{IsBoundedDatabase, IsBoundedRecord}
use Rattle.palm_device.specs.Devices.{Device}
use Rattle.palm_device.specs.Soundness.{AreIds, ids_of}
use Rattle.palm_device.proofs.BoundLaws.{length-filter}
use Rattle.dlp_commands.specs.DatabaseFunctions.{listed}
use Rattle.conduit_rules.specs.ById.{each_id, id_bound, with_id}
use Rattle.conduit_rules.specs.Contents.{same_content}
use Rattle.conduit_rules.specs.States.{SideState, archived, first, live, nothing}
use Rattle.conduit_rules.specs.Views.{fast_seen, fast_view, slow_seen, slow_view}
use Rattle.conduit_rules.specs.declared.view.Seen.{Seen}
use Rattle.conduit_rules.proofs.TwiceLaws.{length-each_below, length-kept_twice}
use Rattle.conduit_rules.proofs.ViewLaws.{fast_id}
use Rattle.record_merge.specs.Merging.{new_under, one_copy_behind}
use Rattle.record_merge.proofs.StopLaws.{within}
use Rattle.desktop_session.specs.Tellings.{IsTellable}
use Rattle.desk_store.specs.Desks.{all_rows}
use Rattle.session_parts.specs.declared.report.Did.TheVariants.{Synced}
use Rattle.session_plan.specs.declared.sizes.Sizes.{Sizes}
use Rattle.session_plan.specs.Archives.{entries_of}
use Rattle.session_plan.specs.Limits.{first_behind, first_over, gone_count, sizes_of, with_one}
use Rattle.session_plan.specs.Choosing.{add_count}
use Rattle.session_plan.specs.PlannedLimits.{over_planned, sizes_planned, unseen_count}
use Rattle.session_plan.specs.PlannedReports.{counts_planned, did_by_plan, report_planned, reports_planned, told}
use Rattle.session_plan.specs.Reports.{counts_of, did_by, did_of, is_received, read_count, report_of, reports, twice_count}
use Rattle.session_plan.specs.Sizes.{is_over}
use Rattle.sync_session.proofs.ReadJoins.{job-fast, job-skip, IsSeen, jobs_for}
use Rattle.session_plan.proofs.SeenCountLaws.{length-view, unseen_is_new, view_by}
use Rattle.conduit_rules.specs.declared.view.View.{View}
use Rattle.session_plan.specs.Planning.{ArePlanned, IsPlanUnder}
use Rattle.session_parts.proofs.StretchLaws.{Pairs}

-- ---- what is planned from what was seen

-- the first of two lists that are equal, and the rest
first_same : {A : Type 0} (x y : A) (xs ys : List A) → x ∷ xs ≡ y ∷ ys → x ≡ y
first_same x y xs ys is = let same : x ≡ y = cc in same

rest_same : {A : Type 0} (x y : A) (xs ys : List A) → x ∷ xs ≡ y ∷ ys → xs ≡ ys
rest_same x y xs ys is = let same : xs ≡ ys = cc in same

-- one of them
plan_for : (meeting : Meeting) (agree : List ℕ → Bool) (name : List ℕ) (one : Planned) (seen : View) → agree ≡ agrees meeting
    → one.job ≡ job_for meeting (task_of meeting name) → one.view ≡ seen → IsSeen meeting (task_of meeting name) seen
    → IsPlanUnder (slot_of meeting).shelves agree one.job one.view one.plan → IsPlannedFor meeting (task_of meeting name) one
unfolding sides
plan_for meeting agree name one seen same is shown seen_is planned =
    let task = task_of meeting name in
    let shelves : ShelvesValue = (slot_of meeting).shelves in
    let viewed : (skip_of task ≡ None → one.view.seen.items ≡ view meeting task) = λ none. ap (λ (v : View). v.seen.items) shown ∙ seen_is none in
    record {
      job = is;
      seen = viewed;
      plan = λ none. rw (is, same, viewed none) at planned;
    }

plans_for : (meeting : Meeting) (agree : List ℕ → Bool) (ns : List (List ℕ)) (planned : List Planned) (seen : List View) → agree ≡ agrees meeting
    → map (λ (one : Planned). one.job) planned ≡ map (job_for meeting) (map (task_of meeting) ns) → map (λ (one : Planned). one.view) planned ≡ seen
    → Pairs (IsSeen meeting) (map (task_of meeting) ns) seen
    → AllByRecursion (λ (one : Planned). IsPlanUnder (slot_of meeting).shelves agree one.job one.view one.plan) planned
    → AreEachPlannedFor meeting (map (task_of meeting) ns) planned
plans_for meeting agree [] [] seen same jobs views pairs plans = tt
plans_for meeting agree [] (one ∷ planned) seen same jobs views pairs plans = absurd cc
plans_for meeting agree (name ∷ ns) [] seen same jobs views pairs plans = absurd cc
plans_for meeting agree (name ∷ ns) (one ∷ planned) [] same jobs views pairs plans = absurd pairs
plans_for meeting agree (name ∷ ns) (one ∷ planned) (v ∷ seen) same jobs views pairs plans = (
  plan_for meeting agree name one v same (first_same _ _ _ _ jobs) (first_same _ _ _ _ views) pairs.0 plans.0,
  plans_for meeting agree ns planned seen same (rest_same _ _ _ _ jobs) (rest_same _ _ _ _ views) pairs.1 plans.1,
)

-- from the desktop's picked slot, and what was seen of each database that isn't skipped
pub plans_join : (meeting : Meeting) (shelves : ShelvesValue) (agree : List ℕ → Bool) (jobs : List Job) (seen : List View) (planned : List Planned)
    → shelves ≡ (slot_of meeting).shelves → agree ≡ agrees meeting → jobs ≡ jobs_for meeting → Pairs (IsSeen meeting) (tasks meeting) seen
    → ArePlanned shelves agree jobs seen planned → ArePlannedFor meeting planned
unfolding tasks
plans_join meeting shelves agree jobs seen planned own same are pairs plans =
    plans_for meeting agree (names meeting) planned seen same (plans.jobs_are ∙ are) plans.views_are pairs (rw own at plans.plans)

-- ---- heads

none-map : {A B : Type 0} (f : A → B) (o : Option A) → is_none (option_map f o) ≡ is_none o
none-map f None = refl
none-map f (Some a) = refl

one-map : {A B : Type 0} (f : A → B) (o : Option A) (count : ℕ) → with_one (option_map f o) count ≡ with_one o count
one-map f None count = refl
one-map f (Some a) count = refl

-- ---- what is seen

-- a view has an entry for each record
record IsViewBy (records : List Record) (seen : List Seen) : Type 0 where
  pub entry : Record → Seen
  pub keeps : (r : Record) → (entry r).id ≡ r.id
  pub is : seen ≡ view_by entry records

view_of : (meeting : Meeting) (task : Task) → IsViewBy (records_of task.handheld) (view meeting task)
unfolding view
view_of meeting task = by (is_fast meeting task)
  where
    by : (b : Bool) → IsViewBy (records_of task.handheld) (if b then fast_view (base_rows task) (records_of task.handheld)
        else slow_view (records_of task.handheld))
    by true = record { entry = fast_seen (base_rows task); keeps = fast_id (base_rows task); is = refl }
    by false = record { entry = slow_seen; keeps = λ r. refl; is = refl }

-- ids that differ, of 24 bits
record AreSoundRecords (records : List Record) : Type 0 where
  pub ids : AreIds (ids_of records)
  pub below : AllByRecursion (λ (r : Record). r.id < id_bound) records

all_below : (records : List Record) → AllByRecursion IsBoundedRecord records → AllByRecursion (λ (r : Record). r.id < id_bound) records
all_below [] each = tt
all_below (r ∷ records) each = (within r.id each.0.id, all_below records each.1)

sound_records : (device : Device) (name : List ℕ) → IsTellable device → AreSoundRecords (records_of (database_of name device.databases))
sound_records device name proper = by (database_of name device.databases) refl
  where
    by : (found : Option DatabaseValue) → database_of name device.databases ≡ found → AreSoundRecords (records_of found)
    by None is = record { ids = tt; below = tt }
    by (Some d) is = record {
      ids = AllByRecursion-database_of (λ (x : DatabaseValue). AreIds (ids_of x.records)) name device.databases d proper.sound.ids is;
      below = all_below d.records (AllByRecursion-database_of IsBoundedDatabase name device.databases d proper.bounded.databases is).records;
    }

-- ---- sizes

-- the lists of a planned database are those of its task
record SameLists (meeting : Meeting) (task : Task) (one : Planned) : Type 0 where
  pub name : one.job.name ≡ task.name
  pub seen : length one.view.seen.items ≡ length (records_of task.handheld)
  pub adds : length one.plan.adds.items ≡ add_count meeting task
  pub unseen : unseen_count one.view.seen.items one.plan.kept.items
      ≡ length (each_id (λ i. new_under i (first i (records_of task.handheld)) ((choice meeting task).keep i)))
  pub kept : length one.plan.kept.items ≡ length (kept_rows (choice meeting task).keep)
  pub gone : length one.plan.gone.items ≡ gone_count meeting task
  pub replaced : length one.plan.replace.items ≡ length (replaced_rows (choice meeting task).keep (seen_held meeting task))
  pub purged : length one.plan.purge.items ≡ length (purged_ids (choice meeting task).keep (seen_held meeting task))
  pub archive : one.plan.archive.items ≡ (choice meeting task).archive
  pub twice : one.plan.twice ≡ twice_count meeting task

same_lists : (meeting : Meeting) (task : Task) (one : Planned) → AreSoundRecords (records_of task.handheld)
    → IsPlannedFor meeting task one → skip_of task ≡ None → SameLists meeting task one
unfolding choice
same_lists meeting task one sound for none =
    let plan = for.plan none in
    let shown = view_of meeting task in
    let seen : one.view.seen.items ≡ view_by shown.entry (records_of task.handheld) = for.seen none ∙ shown.is in
    record {
      name = ap (λ (j : Job). j.name) for.job;
      seen = ap length seen ∙ length-view shown.entry (records_of task.handheld) sound.ids sound.below;
      adds = ap length plan.adds;
      unseen = ap (λ (xs : List Seen). unseen_count xs one.plan.kept.items) seen
          ∙ ap (unseen_count (view_by shown.entry (records_of task.handheld))) plan.kept
          ∙ unseen_is_new shown.entry (records_of task.handheld) (choice meeting task).keep shown.keeps;
      kept = ap length plan.kept;
      gone = ap length plan.gone;
      replaced = ap length plan.replace;
      purged = ap length plan.purge;
      archive = plan.archive;
      twice = plan.twice;
    }

archive_by : (archives : List DatabaseValue) (new more : List (ℕ × ContentValue)) (name other : List ℕ) → name ≡ other → new ≡ more
    → length (one_copy_behind [] (entries_of (records_of (database_of name archives)) ++ new))
    ≡ length (one_copy_behind [] (entries_of (records_of (database_of other archives)) ++ more))
archive_by archives new more name other same grows = λ k. length (one_copy_behind [] (entries_of (records_of (database_of (same k) archives)) ++ grows k))

-- ---- the first that would pass a limit

over_by : (s t : Option Skip) (b c : Bool) (name other : List ℕ) (skipped left later rest : Option (List ℕ)) → s ≡ t → (t ≡ None → b ≡ c) → name ≡ other
    → skipped ≡ rest → left ≡ later
    → (if is_some s then skipped else (if b then Some name else left)) ≡ (if is_none t then (if c then Some other else later) else rest)
over_by s None b c name other skipped left later rest same over named passed on = rw (same, over refl, named, on)
over_by s (Some skip) b c name other skipped left later rest same over named passed on = rw (same, passed)

-- a list of tasks of which the first may be skipped
first_if : (meeting : Meeting) (handhelds desktops : ℕ) (b : Bool) (task : Task) (later : List Task)
    → first_behind meeting handhelds desktops (if b then task ∷ later else later)
    ≡ (if b then (if is_over (sizes_of meeting handhelds desktops task) then Some task.name
    else first_behind meeting (with_one task.handheld handhelds) (with_one task.rows desktops) later) else first_behind meeting handhelds desktops later)
unfolding first_behind
first_if meeting handhelds desktops true task later = refl
first_if meeting handhelds desktops false task later = refl

-- ---- what is told of each

pub at_most : (a b : ℕ) → nat_lt a b ≡ false → b ≤ a
at_most a b none = grind (arith, nat_tests, none)

-- no limit is passed
record Fits (sizes : Sizes) : Type 0 where
  pub records : sizes.records ≤ 65535
  pub rows : sizes.rows ≤ 65535
  pub base : sizes.base ≤ 65535
  pub archive : sizes.archive ≤ 65535

fits : (sizes : Sizes) → is_over sizes ≡ false → Fits sizes
fits sizes none =
    let first = or_parts _ _ none in
    let second = or_parts _ _ first.1 in
    let third = or_parts _ _ second.1 in
    let fourth = or_parts _ _ third.1 in
    let fifth = or_parts _ _ fourth.1 in
    record {
      records = at_most 65535 sizes.records third.0;
      rows = at_most 65535 sizes.rows fourth.0;
      base = at_most 65535 sizes.base fifth.0;
      archive = at_most 65535 sizes.archive fifth.1;
    }

told_small : (n m : ℕ) → n ≡ m → n ≤ 65535 → told n ≡ m
told_small n m is few = min-eq_left (omega (arith, few)) ∙ is

replaced_kept : (i : ℕ) (keep : Option ContentValue) (h : SideState) → length (with_id i (replacement keep h)) ≤ length (with_id i keep)
replaced_kept i None h = omega arith
replaced_kept i (Some c) nothing = omega arith
replaced_kept i (Some c) (live x) = by (same_content x c)
  where
    by : (b : Bool) → length (with_id i (if b then None else Some c)) ≤ length (with_id i (Some c))
    by true = omega arith
    by false = omega arith
replaced_kept i (Some c) (archived x) = omega arith

-- what both sides changed is kept
twice_few : (meeting : Meeting) (task : Task) → twice_count meeting task ≤ length (kept_rows (choice meeting task).keep)
unfolding choice
twice_few meeting task = length-kept_twice (action_or_sync task.action) (sides meeting task)

purged_gone : (i : ℕ) (keep : Option ContentValue) (h : SideState) → length (purged_at keep h i) ≤ length (with_id i (lost keep h))
purged_gone i None nothing = omega arith
purged_gone i None (live x) = omega arith
purged_gone i None (archived x) = omega arith
purged_gone i (Some c) h = omega arith

archived_by : (archives : List DatabaseValue) (new more : List (ℕ × ContentValue)) (name other : List ℕ) → name ≡ other → new ≡ more
    → length (one_copy_behind [] (entries_of (records_of (database_of name archives)) ++ new))
    - length (one_copy_behind [] (entries_of (records_of (database_of name archives))))
    ≡ length (one_copy_behind [] (entries_of (records_of (database_of other archives)) ++ more))
    - length (one_copy_behind [] (entries_of (records_of (database_of other archives))))
archived_by archives new more name other same grows = λ k.
    archive_by archives new more name other same grows k - length (one_copy_behind [] (entries_of (records_of (database_of (same k) archives))))

did_by_skip : (meeting : Meeting) (task : Task) (one : Planned) (skip : Option Skip)
    → (skip ≡ None → counts_planned (slot_of meeting).shelves one ≡ counts_of meeting task)
    → did_by_plan (slot_of meeting).shelves one skip ≡ did_by meeting task skip
did_by_skip meeting task one None same = ap Synced (same refl)
did_by_skip meeting task one (Some skip) same = refl

-- what no limit stops isn't over, and nor is any behind it
record Under (over : Bool) (left : Option (List ℕ)) : Type 0 where
  pub here : over ≡ false
  pub on : left ≡ None

under_by : (s t : Option Skip) (over : Bool) (name : List ℕ) (skipped left : Option (List ℕ)) → s ≡ t
    → (if is_some s then skipped else (if over then Some name else left)) ≡ None → t ≡ None → Under over left
under_by s t over name skipped left same none bare =
    by over (rw (same ∙ bare) at none)
  where
    by : (b : Bool) → (if b then Some name else left) ≡ None → Under b left
    by true e = absurd cc
    by false e = record { here = refl; on = e }

-- ---- the planned databases of a meeting

module _ (meeting : Meeting) (proper : IsTellable meeting.device) where
  -- a planned database of a meeting has the sizes of its task
  sizes_are : (name : List ℕ) (one : Planned) (handhelds desktops : ℕ)
      → IsPlannedFor meeting (task_of meeting name) one → skip_of (task_of meeting name) ≡ None
      → sizes_planned (slot_of meeting).shelves handhelds desktops one ≡ sizes_of meeting handhelds desktops (task_of meeting name)
  sizes_are name one handhelds desktops for none =
      let task : Task = task_of meeting name in
      let same : SameLists meeting task one = same_lists meeting task one (sound_records meeting.device name proper) for none in
      let new_there : (if is_none one.job.handheld then handhelds + 1 else 0) ≡ (if is_none task.handheld then handhelds + 1 else 0)
      = rw (for.job, none-map (λ (d : DatabaseValue). listed d.head) task.handheld) in
      let new_here : (if is_none one.job.rows then desktops + 1 else 0) ≡ (if is_none task.rows then desktops + 1 else 0)
      = rw (for.job, none-map (λ (d : DatabaseValue). d.head) task.rows) in
      λ k. record {
        handhelds = new_there k;
        desktops = new_here k;
        records = same.seen k + (same.adds k + same.unseen k);
        rows = same.kept k + same.adds k;
        base = (same.kept k + same.adds k) + same.gone k;
        archive = archive_by (slot_of meeting).shelves.archives _ _ one.job.name name same.name same.archive k;
      }

  over_each : (all : List (List ℕ)) (planned : List Planned) (handhelds desktops : ℕ)
      → AreEachPlannedFor meeting (map (task_of meeting) all) planned
      → over_planned (slot_of meeting).shelves handhelds desktops planned
      ≡ first_behind meeting handhelds desktops (filter (λ task. is_none (skip_of task)) (map (task_of meeting) all))
  unfolding over_planned first_behind
  over_each [] [] handhelds desktops each = refl
  over_each (name ∷ all) (one ∷ planned) handhelds desktops each =
      let task : Task = task_of meeting name in
      let later : List Task = filter (λ task. is_none (skip_of task)) (map (task_of meeting) all) in
      let job = each.0.job in
      over_by one.job.skip (skip_of task) (is_over (sizes_planned (slot_of meeting).shelves handhelds desktops one))
      (is_over (sizes_of meeting handhelds desktops task)) one.job.name name
      (over_planned (slot_of meeting).shelves handhelds desktops planned)
      (over_planned (slot_of meeting).shelves (with_one one.job.handheld handhelds) (with_one one.job.rows desktops) planned)
      (first_behind meeting (with_one task.handheld handhelds) (with_one task.rows desktops) later) (first_behind meeting handhelds desktops later)
      (ap (λ (j : Job). j.skip) job ∙ job-skip meeting task)
      (λ none. ap is_over (sizes_are name one handhelds desktops each.0 none))
      (ap (λ (j : Job). j.name) job)
      (over_each all planned handhelds desktops each.1)
      (rw (job, one-map (λ (d : DatabaseValue). listed d.head) task.handheld handhelds, one-map (λ (d : DatabaseValue). d.head) task.rows desktops)
      (over_each all planned (with_one task.handheld handhelds) (with_one task.rows desktops) each.1))
      ∙ sym (first_if meeting handhelds desktops (is_none (skip_of task)) task later)
  over_each all planned handhelds desktops each = absurd each

  -- the first planned database that would pass a limit is the first one of the meeting
  pub over_is_first_over : (planned : List Planned) → ArePlannedFor meeting planned
      → over_planned (slot_of meeting).shelves (length meeting.device.databases) (all_rows meeting.slots) planned ≡ first_over meeting
  unfolding first_over active tasks
  over_is_first_over planned each =
      over_each (names meeting) planned (length meeting.device.databases) (all_rows meeting.slots) each

  counts_are : (name : List ℕ) (one : Planned) (handhelds desktops : ℕ)
      → IsPlannedFor meeting (task_of meeting name) one → skip_of (task_of meeting name) ≡ None
      → is_over (sizes_planned (slot_of meeting).shelves handhelds desktops one) ≡ false
      → counts_planned (slot_of meeting).shelves one ≡ counts_of meeting (task_of meeting name)
  counts_are name one handhelds desktops for none under =
      let task : Task = task_of meeting name in
      let keep : ℕ → Option ContentValue = (choice meeting task).keep in
      let held : ℕ → SideState = seen_held meeting task in
      let same : SameLists meeting task one = same_lists meeting task one (sound_records meeting.device name proper) for none in
      let fit : Fits (sizes_planned (slot_of meeting).shelves handhelds desktops one) = fits _ under in
      let records = fit.records in let rows = fit.rows in let base = fit.base in let archive = fit.archive in
      let seen_few = length-filter (λ (seen : Seen). is_received seen.state) one.view.seen.items in
      let replaced_few = length-each_below (λ i. with_id i (replacement (keep i) (held i))) (λ i. with_id i (keep i)) id_bound
      (λ i. replaced_kept i (keep i) (held i)) in
      let purged_few = length-each_below (λ i. purged_at (keep i) (held i) i) (λ i. with_id i (lost (keep i) (held i))) id_bound
      (λ i. purged_gone i (keep i) (held i)) in
      let few_twice = twice_few meeting task in
      let kept = same.kept in let gone = same.gone in let replaced = same.replaced in let purged = same.purged in let twice = same.twice in
      λ k. record {
        fast = (ap (λ (j : Job). j.fast) for.job ∙ job-fast meeting task) k;
        read = told_small _ _ (ap read_count (for.seen none)) (omega (arith, seen_few, records)) k;
        replaced = told_small _ _ same.replaced (omega (arith, replaced_few, kept, replaced, rows)) k;
        added = told_small _ _ same.adds (omega (arith, rows)) k;
        purged = told_small _ _ same.purged (omega (arith, purged_few, gone, purged, base)) k;
        archived = told_small _ _ (archived_by (slot_of meeting).shelves.archives _ _ one.job.name name same.name same.archive) (omega (arith, archive)) k;
        twice = told_small _ _ same.twice (omega (arith, few_twice, kept, twice, rows)) k;
        rows = told_small _ _ (λ k. same.kept k + same.adds k) (omega (arith, rows)) k;
      }

  reports_each : (all : List (List ℕ)) (planned : List Planned) (handhelds desktops : ℕ)
      → AreEachPlannedFor meeting (map (task_of meeting) all) planned → over_planned (slot_of meeting).shelves handhelds desktops planned ≡ None
      → map (report_planned (slot_of meeting).shelves) planned ≡ map (report_of meeting) (map (task_of meeting) all)
  unfolding over_planned did_of
  reports_each [] [] handhelds desktops each none = refl
  reports_each (name ∷ all) (one ∷ planned) handhelds desktops each none =
      let task : Task = task_of meeting name in
      let job = each.0.job in
      let skip : one.job.skip ≡ skip_of task = ap (λ (j : Job). j.skip) job ∙ job-skip meeting task in
      let left : Option (List ℕ)
      = over_planned (slot_of meeting).shelves (with_one one.job.handheld handhelds) (with_one one.job.rows desktops) planned in
      let under : skip_of task ≡ None → Under (is_over (sizes_planned (slot_of meeting).shelves handhelds desktops one)) left
      = λ bare. under_by one.job.skip (skip_of task) _ one.job.name (over_planned (slot_of meeting).shelves handhelds desktops planned) left
      skip none bare in
      let counts : skip_of task ≡ None → counts_planned (slot_of meeting).shelves one ≡ counts_of meeting task
      = λ bare. counts_are name one handhelds desktops each.0 bare (under bare).here in
      let did = ap (did_by_plan (slot_of meeting).shelves one) skip ∙ did_by_skip meeting task one (skip_of task) counts in
      let report : report_planned (slot_of meeting).shelves one ≡ report_of meeting task
      = λ k. record { name = ap (λ (j : Job). j.name) job k; did = did k } in
      ap (λ x. x ∷ map (report_planned (slot_of meeting).shelves) planned) report ∙ ap (λ zs. report_of meeting task ∷ zs)
      (rest (skip_of task) one.job.skip skip _ one.job.name (over_planned (slot_of meeting).shelves handhelds desktops planned) left none _
      (λ e. reports_each all planned handhelds desktops each.1 e)
      (λ e. reports_each all planned (with_one one.job.handheld handhelds) (with_one one.job.rows desktops) each.1 e))
    where
      rest : (t : Option Skip) → (s : Option Skip) → s ≡ t → (over : Bool) (name : List ℕ) (skipped left : Option (List ℕ))
          → (if is_some s then skipped else (if over then Some name else left)) ≡ None → (P : Type 0) → (skipped ≡ None → P) → (left ≡ None → P) → P
      rest None s is over name skipped left none P passed on = on (under_by s None over name skipped left is none refl).on
      rest (Some x) s is over name skipped left none P passed on = passed (rw is at none)
  reports_each all planned handhelds desktops each none = absurd each

  -- where no database would pass a limit, what is told of the planned databases is what is told of the meeting
  pub reports_are : (planned : List Planned) → ArePlannedFor meeting planned
      → first_over meeting ≡ None → reports_planned (slot_of meeting).shelves planned ≡ reports meeting
  unfolding reports_planned reports tasks
  reports_are planned each none =
      reports_each (names meeting) planned (length meeting.device.databases) (all_rows meeting.slots) each
      (over_is_first_over planned each ∙ none)
