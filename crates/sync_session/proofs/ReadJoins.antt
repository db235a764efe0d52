-- The readings of a session are those of its meeting.
use Rattle.std.proofs.Common.{◌≡◌, ◌∙◌, refl, sym, ap, ℕ, Bool, true, false, List, [], ◌∷◌, map, length, lit<}
use Rattle.std.proofs.lemmas.Bool.{and_parts, and_right}
use Rattle.std.proofs.lemmas.List.Folds.{flat_map-map}
use Rattle.std.proofs.lemmas.Simd.{map-map}
use Rattle.std.specs.Prelude.{Option, Some, None, ◌||◌, ◌&&◌, not, is_none, is_some, flat_map, if◌then◌else◌}
use Rattle.std.specs.List.{AllByRecursion}
use Rattle.sync_session.proofs.MeetingWords.{DatabaseValue, DbHead, ShelvesValue, Job, Skip, action_or_sync, agrees, base_rows, base_rows_by, is_fast}
use Rattle.sync_session.proofs.MeetingWords.{is_fast_by, is_sync, view, IsAtRest, IsFirst, job_for, listed_head, active, head_of, reason_by, skip_of, AreFirst}
use Rattle.sync_session.proofs.MeetingWords.{EachSays, Stretch, each_acts, Meeting, Task, names, records_of, slot_of, task_of, tasks}
use Rattle.pdb_values.specs.Heads.{holds_resources, is_read_only}
use Rattle.pdb_values.specs.Names.{IsName}
use Rattle.pdb_values.specs.NamedDatabases.{database_of}
use Rattle.pdb_values.specs.declared.record.Record.{Record}
use Rattle.pdb_values.proofs.NamedLaws.{AllByRecursion-database_of, database_of-name}
use Rattle.palm_device.specs.Bounds.{IsBoundedDatabase}
use Rattle.palm_device.specs.Devices.{Device}
use Rattle.palm_device.specs.Handles.{Base, base_at}
use Rattle.palm_device.specs.Heads.{has_bit}
use Rattle.dlp_commands.specs.DatabaseFunctions.{listed}
use Rattle.dlp_commands.specs.DeviceSteps.{tried}
use Rattle.dlp_commands.specs.Holding.{on_records}
use Rattle.dlp_commands.specs.declared.reading.Reading.TheVariants as reading
use Rattle.session_parts.proofs.LinkWords.{Talk, Act, acted, opening, saying, IsTellable, device_after}
use Rattle.conduit_rules.specs.ById.{ids_below, id_bound}
use Rattle.conduit_rules.specs.States.{first}
use Rattle.conduit_rules.specs.Views.{fast_view, slow_view}
use Rattle.conduit_rules.specs.declared.action.Action.{Action}
use Rattle.conduit_rules.specs.declared.action.Action.TheVariants.{Sync, Handheld, Desktop, Both}
use Rattle.conduit_rules.specs.declared.view.Seen.{Seen}
use Rattle.conduit_rules.specs.declared.view.View.{View}
use Rattle.desktop_session.specs.Orders.{CanOpen}
use Rattle.mirrors.specs.Reads.{entries_told, slow_reads, slow_shown}
use Rattle.mirrors.proofs.ShownLaws.{records_told, slow_shown-is}
use Rattle.mirrors.specs.FastReads as fast
use Rattle.mirrors.specs.FastReads.{fast_asks, fast_shown}
use Rattle.mirrors.proofs.ViewLaws.{fast_reads-are, fast_shown-is}
use Rattle.session_parts.specs.declared.skip.Skip.TheVariants as skip
use Rattle.sync_session.specs.Readings.{opened_reads, opened_shown, reads_by, reads_under, shown_by, shown_under}
use Rattle.sync_session.specs.Reads.{opened, read_acts, reads}
use Rattle.session_parts.proofs.RestLaws.{KeepsOpen, around_same, keeps_next, keeps_same, leads_to}
use Rattle.session_parts.proofs.RestLaws.{opened_on, opened_proper, opens_does, reads_same}
use Rattle.sync_session.proofs.SaidLaws.{reads-all}
use Rattle.session_parts.proofs.StretchLaws.{Leads, Pairs, Steps, Tells, first_is, flat_map-kept, flat_map-none, pairs-map}
use Rattle.session_parts.proofs.StretchLaws.{stretches_join, stretches_lead, tells_on, where_kept}
use Rattle.hs_folders.proofs.FileTrees.{is_some-option_map}
use Rattle.desktop_session.proofs.ListLaws.{after_append}

-- ---- a database that is not skipped holds records and can be written

-- a test that fails comes behind others that failed
first_fails : (a b : Bool) (why : Skip) (later : Option Skip) → (if a || b then Some why else later) ≡ None → (a ≡ false) × (later ≡ None)
first_fails true b why later is = absurd cc
first_fails false true why later is = absurd cc
first_fails false false why later is = (refl, is)

kept_head : (a : Option Action) (head : DbHead) (rows : Option DbHead) (base : Bool) → reason_by a (Some head) rows base ≡ None
    → (holds_resources head.attributes ≡ false) × (is_read_only head.attributes ≡ false)
kept_head None head rows base is = absurd cc
kept_head (Some a) head rows base is =
    let one = first_fails (holds_resources head.attributes) _ skip.Resource _ is in
    let two = first_fails (is_read_only head.attributes) _ skip.ReadOnly _ one.1 in
    (one.0, two.0)

-- what is known of such a database of a handheld at rest
pub record IsKept (device : Device) (name : List ℕ) (database : DatabaseValue) : Type 0 where
  pub there : database_of name device.databases ≡ Some database
  pub named : IsName name
  pub records : on_records database ≡ true
  pub can : CanOpen device 0 0xD0 name

kept_here : (device : Device) (name : List ℕ) (database : DatabaseValue) (a : Option Action) (rows : Option DbHead) (base : Bool) → IsAtRest device
    → database_of name device.databases ≡ Some database → reason_by a (Some database.head) rows base ≡ None → IsKept device name database
kept_here device name database a rows base rests is kept =
    let bounded = AllByRecursion-database_of IsBoundedDatabase name device.databases database rests.proper.bounded.databases is in
    let named = rw (database_of-name name device.databases database is) at bounded.head.name in
    let passes = kept_head a database.head rows base kept in
    record {
      there = is;
      named = named;
      records = ap not passes.0;
      can = record {
        first = refl;
        named = named;
        none_open = rests.closed;
        there = rw is (and_right (has_bit 0x40 0xD0) (is_read_only database.head.attributes) passes.1);
      };
    }

-- ---- what is known of a job before it is read

-- a seed is no reason
reason-listed : (a : Option Action) (h : Option DatabaseValue) (rows : Option DbHead) (base : Bool)
    → reason_by a (listed_head h) rows base ≡ reason_by a (head_of h) rows base
reason-listed None h rows base = refl
reason-listed (Some a) None rows base = refl
reason-listed (Some Sync) (Some d) None base = refl
reason-listed (Some Sync) (Some d) (Some r) base = refl
reason-listed (Some Handheld) (Some d) None base = refl
reason-listed (Some Handheld) (Some d) (Some r) base = refl
reason-listed (Some Desktop) (Some d) None base = refl
reason-listed (Some Desktop) (Some d) (Some r) base = refl
reason-listed (Some Both) (Some d) None base = refl
reason-listed (Some Both) (Some d) (Some r) base = refl

pub job-skip : (meeting : Meeting) (task : Task) → (job_for meeting task).skip ≡ skip_of task
unfolding skip_of
job-skip meeting task = reason-listed task.action task.handheld (head_of task.rows) (is_some task.base)

pub job-fast : (meeting : Meeting) (task : Task) → (job_for meeting task).fast ≡ is_fast meeting task
unfolding is_fast
job-fast meeting task =
    rw (is_some-option_map (λ (database : DatabaseValue). listed database.head) task.handheld, is_some-option_map (λ (database : DatabaseValue). database.head) task.rows)

-- ---- what a reading asks for

-- a fast reading has rows and base rows
fast_rows : (agree slow : Bool) (sync handheld : Bool) (rows : Option DatabaseValue) (base : Option DatabaseValue)
    → (agree && (not slow && (sync && (handheld && (is_some rows && is_some base))))) ≡ true → base_rows_by rows base ≡ records_of base
fast_rows agree slow sync handheld (Some rows) base is = refl
fast_rows agree slow sync handheld None base is =
    let no : (false && is_some base) ≡ true = (and_parts handheld _ (and_parts sync _ (and_parts (not slow) _ (and_parts agree _ is).1).1).1).1 in absurd cc

fast-base : (meeting : Meeting) (task : Task) → is_fast meeting task ≡ true → base_rows task ≡ records_of task.base
unfolding is_fast
fast-base meeting task is =
    fast_rows (agrees meeting task.name) meeting.wishes.slow (is_sync (action_or_sync task.action)) (is_some task.handheld) task.rows task.base is

-- ---- what a reading leaves

reads-keep : (device : Device) (mode : ℕ) (meeting : Meeting) (task : Task) → AllByRecursion (KeepsOpen device task.name mode) (reads meeting task)
unfolding acted tried
reads-keep device mode meeting task = reads-all {P = KeepsOpen device task.name mode} (record {
  counts = keeps_same (λ d. reads_same d 1 0x2B reading.EntryCount);
  lists = λ start. keeps_same (λ d. reads_same d 1 0x31 (reading.RecordIds start 8000));
  nexts = keeps_next device task.name mode;
  ids = λ id. keeps_same (λ d. reads_same d 1 0x20 (reading.RecordOfId id 0 65535));
  places = λ index. keeps_same (λ d. reads_same d 1 0x20 (reading.RecordAt index 0 65535));
}) meeting task

-- ---- what is seen

none_seen : slow_view [] ≡ []
none_seen = flat_map-none (ids_below id_bound)

never_fast : (agree slow sync rows base : Bool) → (agree && (not slow && (sync && (false && (rows && base))))) ≡ false
never_fast agree slow sync rows base = and_right agree _ (and_right (not slow) _ (and_right sync _ refl))

-- the view, by what is known
abbrev view_by : Bool → List Record → List Record → List Seen
view_by b rows records = if b then fast_view rows records else slow_view records

missing-view : (meeting : Meeting) (task : Task) → task.handheld ≡ None → view meeting task ≡ []
unfolding view is_fast
missing-view meeting task none =
    ap (λ h. view_by (is_fast_by (agrees meeting task.name) meeting.wishes.slow (action_or_sync task.action) (is_some h) (is_some task.rows) (is_some task.base))
    (base_rows task) (records_of h)) none
    ∙ ap (λ b. view_by b (base_rows task) [])
    (never_fast (agrees meeting task.name) meeting.wishes.slow (is_sync (action_or_sync task.action)) (is_some task.rows) (is_some task.base))
    ∙ none_seen

-- ---- one database

module _ (meeting : Meeting) (name : List ℕ) where
  abbrev task : Task
  task = task_of meeting name

  abbrev job_at : Job
  job_at = job_for meeting task

  -- what is said of it, if it isn't skipped
  abbrev read_says : List Act
  read_says = where_kept (is_none (skip_of task)) (read_acts meeting task)

  module _ (rests : IsAtRest meeting.device) where
    -- its database is the handheld's
    kept_of : (database : DatabaseValue) → task.handheld ≡ Some database → skip_of task ≡ None → IsKept meeting.device name database
    unfolding skip_of
    kept_of database is kept =
        kept_here meeting.device name database task.action (head_of task.rows) (is_some task.base) rests is
        (ap (λ h. reason_by task.action (head_of h) (head_of task.rows) (is_some task.base)) (sym is) ∙ kept)

    -- it leaves the handheld as it was
    read_leaves : device_after read_says meeting.device ≡ meeting.device
    unfolding read_acts
    read_leaves = by (skip_of task) task.handheld refl refl
      where
        by : (s : Option Skip) (h : Option DatabaseValue) → skip_of task ≡ s → task.handheld ≡ h
            → device_after (where_kept (is_none s) (if is_none h then [] else opened name (reads meeting task))) meeting.device ≡ meeting.device
        by (Some why) h skips has = refl
        by None None skips has = refl
        by None (Some database) skips has =
            around_same meeting.device name (reads meeting task) rests.closed (kept_of database has skips).can
            (reads-keep meeting.device 0xD0 meeting task)

    module _ (talk : Talk) (same : talk.device ≡ meeting.device) where
      -- once it is open
      module _ (database : DatabaseValue) (kept : IsKept meeting.device name database) where
        abbrev here : Device
        here = opened_on meeting.device name 0xD0 0

        abbrev base : Base
        base = record { opened = record { name = name; mode = 0xD0; next = 0 }; database = database }

        acted-opening : (acted (opening name) talk.device).1 ≡ here
        acted-opening = ap (λ d. (acted (opening name) d).1) same ∙ opens_does meeting.device name kept.can

        proper_here : IsTellable here
        proper_here = opened_proper meeting.device name rests.proper kept.named kept.can

        base_at-here : base_at here 1 ≡ Some base
        base_at-here = leads_to meeting.device name 0xD0 0 database kept.there

        -- under its handle it asks for what a meeting asks
        reads_here : (b : Bool) (given : List ℕ) → is_fast meeting task ≡ b
            → reads_by b (records_of task.base) (saying (opening name ∷ []) (Some talk)) 1 given
            ≡ (if b then fast_asks (base_rows task) 1 database.records else slow_reads 1 (length database.records))
        unfolding saying
        reads_here true given is =
            ap (fast.fast_reads (records_of task.base) 1) acted-opening
            ∙ fast_reads-are here 1 base (records_of task.base) proper_here (lit< tt) base_at-here kept.records refl
            ∙ ap (λ rows. fast_asks rows 1 database.records) (sym (fast-base meeting task is))
        reads_here false given is =
            ap (λ d. slow_reads 1 (entries_told d 1)) acted-opening
            ∙ ap (slow_reads 1) (records_told here 1 base proper_here (lit< tt) base_at-here kept.records)

        -- and shows what a meeting sees
        seen_here : (b : Bool) (seen : List Seen) → is_fast meeting task ≡ b
            → shown_by b (records_of task.base) (saying (opening name ∷ []) (Some talk)) 1 seen → seen ≡ view_by b (base_rows task) database.records
        unfolding saying
        seen_here true seen is shown =
            shown ∙ ap (fast_shown (records_of task.base) 1) acted-opening
            ∙ fast_shown-is here 1 base (records_of task.base) proper_here (lit< tt) base_at-here kept.records refl
            ∙ ap (λ rows. fast_view rows database.records) (sym (fast-base meeting task is))
        seen_here false seen is shown =
            shown ∙ ap (λ d. slow_shown d 1) acted-opening ∙ slow_shown-is here 1 base proper_here (lit< tt) base_at-here kept.records

      read_under : (given : List ℕ) → reads_under (slot_of meeting).shelves (Some talk) job_at 1 given ≡ read_says
      unfolding reads_under read_acts
      read_under given =
          rw (job-skip meeting task, job-fast meeting task) (by (skip_of task) task.handheld refl refl)
        where
          by : (s : Option Skip) (h : Option DatabaseValue) → skip_of task ≡ s → task.handheld ≡ h
              → opened_reads s (listed_head h) (is_fast meeting task) name (records_of task.base) (Some talk) 1 given
              ≡ where_kept (is_none s) (if is_none h then [] else opened name
              (if is_fast meeting task then fast_asks (base_rows task) 1 (records_of h) else slow_reads 1 (length (records_of h))))
          by (Some why) h skips has = refl
          by None None skips has = refl
          by None (Some database) skips has = ap (λ zs. opened name zs) (reads_here database (kept_of database has skips) (is_fast meeting task) given refl)

      -- where it isn't skipped
      seen_by : (seen : List Seen) (h : Option DatabaseValue) → skip_of task ≡ None → task.handheld ≡ h
          → opened_shown None (listed_head h) (is_fast meeting task) name (records_of task.base) (Some talk) 1 seen → seen ≡ view meeting task
      unfolding view
      seen_by seen None skips has shown = shown ∙ sym (missing-view meeting task has)
      seen_by seen (Some database) skips has shown =
          seen_here database (kept_of database has skips) (is_fast meeting task) seen refl shown
          ∙ ap (λ h. view_by (is_fast meeting task) (base_rows task) (records_of h)) (sym has)

      seen_under : (given : List ℕ) (seen : List Seen) → shown_under (slot_of meeting).shelves (Some talk) job_at 1 given seen → skip_of task ≡ None
          → seen ≡ view meeting task
      unfolding shown_under
      seen_under given seen shown skips =
          seen_by seen task.handheld skips refl (rw (job-skip meeting task ∙ skips, job-fast meeting task) at shown)

-- ---- all of them

-- the databases as they are before they are read
abbrev pub jobs_for : Meeting → List Job
jobs_for meeting = map (job_for meeting) (tasks meeting)

-- an answer shows a database that isn't skipped as it is
abbrev pub IsSeen : Meeting → Task → View → Type 0
IsSeen meeting task seen = skip_of task ≡ None → seen.seen.items ≡ view meeting task

abbrev pub shows_under : ShelvesValue → Option Talk → Job → ℕ → List ℕ → View → Type 0
shows_under shelves told job handle given seen = shown_under shelves told job handle given seen.seen.items

-- the jobs by their names
jobs-names : (meeting : Meeting) → jobs_for meeting ≡ map (job_at meeting) (names meeting)
unfolding tasks
jobs-names meeting = map-map (job_for meeting) (task_of meeting) (names meeting)

-- what all say
read-flat : (meeting : Meeting) → flat_map (read_says meeting) (names meeting) ≡ flat_map (read_acts meeting) (active meeting)
unfolding tasks active
read-flat meeting =
    sym (flat_map-map (λ task. where_kept (is_none (skip_of task)) (read_acts meeting task)) (task_of meeting) (names meeting))
    ∙ flat_map-kept (λ task. is_none (skip_of task)) (read_acts meeting) (tasks meeting)

-- the readings of a session, once all are done: they say what the meeting says, leave the handheld as it was, and show it
pub record ReadsJoin (meeting : Meeting) (told : Option Talk) (ones : List Stretch) (views : List View) : Type 0 where
  pub acts : each_acts (reads_under (slot_of meeting).shelves) told (jobs_for meeting) ones ≡ flat_map (read_acts meeting) (active meeting)
  pub tells : Tells meeting.device (saying (flat_map (read_acts meeting) (active meeting)) told)
  pub seen : Pairs (IsSeen meeting) (tasks meeting) views

module _ (meeting : Meeting) (rests : IsAtRest meeting.device) where
  read_steps : Steps (reads_under (slot_of meeting).shelves) (job_at meeting) (read_says meeting) (Tells meeting.device)
  read_steps = record {
    acts_are = λ told name one tells first.
        let handle = first_is meeting.device told one.handle tells rests.closed first in
        rw (tells.is, handle) (read_under meeting name rests tells.talk tells.same one.given);
    known = λ told name tells. tells_on meeting.device meeting.device (read_says meeting name) told tells (read_leaves meeting name rests);
  }

  read_shows : (told : Option Talk) (name : List ℕ) (one : Stretch) (seen : View) → Tells meeting.device told → IsFirst told one.handle
      → shows_under (slot_of meeting).shelves told (job_at meeting name) one.handle one.given seen → IsSeen meeting (task_of meeting name) seen
  read_shows told name one seen tells first shown =
      let handle = first_is meeting.device told one.handle tells rests.closed first in
      seen_under meeting name rests tells.talk tells.same one.given seen.seen.items (rw (tells.is, handle) at shown)

  -- all of them leave the handheld as it was
  pub reads_leave : device_after (flat_map (read_acts meeting) (active meeting)) meeting.device ≡ meeting.device
  reads_leave = ap (λ zs. device_after zs meeting.device) (sym (read-flat meeting)) ∙ each (names meeting)
    where
      each : (ns : List (List ℕ)) → device_after (flat_map (read_says meeting) ns) meeting.device ≡ meeting.device
      each [] = refl
      each (name ∷ ns) =
          after_append (read_says meeting name) (flat_map (read_says meeting) ns) meeting.device
          ∙ ap (device_after (flat_map (read_says meeting) ns)) (read_leaves meeting name rests) ∙ each ns

  module _ (told : Option Talk) (ones : List Stretch) (tells : Tells meeting.device told)
      (firsts : AreFirst (reads_under (slot_of meeting).shelves) told (jobs_for meeting) ones) where
    pub reads_join : (seen : List View)
        → EachSays (reads_under (slot_of meeting).shelves) (shows_under (slot_of meeting).shelves) told (jobs_for meeting) ones seen
        → ReadsJoin meeting told ones seen
    unfolding tasks
    reads_join seen all =
        let acts = reads_under (slot_of meeting).shelves in
        let shows = shows_under (slot_of meeting).shelves in
        let jobs = jobs-names meeting in
        let joined = stretches_join read_steps shows (λ name v. IsSeen meeting (task_of meeting name) v) read_shows told (names meeting) ones seen tells
        (rw jobs at firsts) (rw jobs at all) in
        record {
          acts = ap (λ js. each_acts acts told js ones) jobs ∙ joined.acts_are ∙ read-flat meeting;
          tells = rw (read-flat meeting) at joined.known;
          seen = pairs-map (IsSeen meeting) (task_of meeting) (names meeting) seen joined.shown;
        }

    -- some of the readings
    pub reads_lead : Leads (each_acts (reads_under (slot_of meeting).shelves) told (jobs_for meeting) ones) (flat_map (read_acts meeting) (active meeting))
    reads_lead =
        let acts = reads_under (slot_of meeting).shelves in
        let jobs = jobs-names meeting in
        rw (jobs, ← read-flat meeting) (stretches_lead read_steps told (names meeting) ones tells (rw jobs at firsts))
