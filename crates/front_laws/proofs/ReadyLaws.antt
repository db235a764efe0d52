-- The databases of a session that aren't skipped can be read and written.
use Rattle.std.proofs.lemmas.Grind.{common_steps}
use Rattle.std.proofs.Common.{◌≡◌, ◌≤◌, ◌∙◌, ◌||◌, not, refl, ap, sym, subst, ℕ, Bool, true, false, List, [], ◌∷◌, length, map, filter, if◌then◌else◌, arith}
use Rattle.std.proofs.Common.{is_none, is_some}
use Rattle.std.specs.Prelude.{Option, Some, None}
use Rattle.std.specs.List.{AllByRecursion, list_any}
use Rattle.std.specs.Str.{bytes_eq}
use Rattle.pdb_values.specs.Databases.{DatabaseValue}
use Rattle.pdb_values.specs.Heads.{holds_resources}
use Rattle.pdb_values.specs.NamedDatabases.{database_of}
use Rattle.pdb_values.specs.Names.{IsName}
use Rattle.pdb_values.specs.declared.head.DbHead.{DbHead}
use Rattle.pdb_values.specs.declared.record.Record.{Record}
use Rattle.pdb_values.proofs.NamedLaws.{AllByRecursion-database_of, bytes_eq-own, database_of-name}
use Rattle.palm_device.specs.Bounds.{IsBoundedDatabase, IsBoundedRecord}
use Rattle.palm_device.specs.Heads.{is_read_only}
use Rattle.palm_device.specs.Soundness.{AreIds, ids_of}
use Rattle.conduit_rules.specs.ById.{id_bound}
use Rattle.conduit_rules.specs.Choices.{Sides, sides_of}
use Rattle.conduit_rules.specs.Views.{fast_view, slow_view, view_held}
use Rattle.conduit_rules.specs.declared.action.Action.{Action}
use Rattle.conduit_rules.proofs.ByIdLaws.{id_bound-is}
use Rattle.conduit_rules.proofs.PlanLaws.{replaced_rise}
use Rattle.record_merge.specs.Merging.{AreBounded, ShowsNoOther}
use Rattle.record_merge.proofs.AfterLaws.{apart-rising}
use Rattle.record_merge.proofs.SettledLaws.{first-zero}
use Rattle.record_merge.proofs.ShownLaws.{fast-no_other, slow-no_other}
use Rattle.session_plan.specs.Choosing.{action_or_sync, agrees, base_rows, choice, is_fast, seen_held, sides, view}
use Rattle.session_plan.specs.Heads.{made_head}
use Rattle.session_plan.specs.Blocks.{blocks_for, with_blocks}
use Rattle.session_plan.specs.Merges.{bare_before, filled_before, handheld_before, new_database}
use Rattle.sync_session.specs.News.{replaced as replacements}
use Rattle.session_plan.specs.Skips.{active, head_of, one_passes, reason_by, skip_of}
use Rattle.session_plan.specs.Tasks.{Meeting, Task, names, records_of, slot_of, task_of, tasks}
use Rattle.front_laws.proofs.MergedLaws.{AreTasks}
use Rattle.front_laws.proofs.SkipLaws.{handheld-like}
use Rattle.front_laws.proofs.TaskLaws.{are-active, on_a_side}
use Rattle.front_laws.specs.Sound.{IsSoundMeeting}
use Rattle.front_laws.proofs.EachLaws.{AreReady, HaveNames}
use Rattle.front_laws.proofs.PhaseActs.{ShowAll, Stand}
use Rattle.front_laws.proofs.PutActs.{IsReplacement}
use Rattle.front_laws.proofs.SortedLaws.{AreSorted, HasNoZero, HasSorted, SeenSorted, adds-sorted, fast-sorted, replaced-sorted, sides-sorted, slow-sorted}
use Rattle.front_laws.proofs.TaskActs.{IsReady}
use Rattle.front_laws.proofs.WriteActs.{IsSorted}
use Rattle.desk_journal.proofs.StepLaws.{all_weaken}

-- ---- the databases that aren't skipped

pub record IsKept (m : Meeting) (t : Task) : Type 0 where
  pub is : t ≡ task_of m t.name
  pub side : (is_some t.handheld || is_some t.rows) ≡ true
  pub kept : is_none (skip_of t) ≡ true

abbrev pub IsIn : List (List ℕ) → List ℕ → Type 0
IsIn ns n = list_any (λ other. bytes_eq other n) ns ≡ true

pub are_in : (ns : List (List ℕ)) → AllByRecursion (IsIn ns) ns
are_in [] = tt
are_in (n ∷ ns) = grind (arith, bytes_eq-own n, all_weaken (IsIn ns) (IsIn (n ∷ ns)) ns, IsIn ns, IsIn (n ∷ ns), are_in ns)

kept_in : (m : Meeting) (ns : List (List ℕ)) → AllByRecursion (IsIn (names m)) ns
    → AllByRecursion (IsKept m) (filter (λ t. is_none (skip_of t)) (map (task_of m) ns))
kept_in m [] all = tt
kept_in m (n ∷ ns) all = by (is_none (skip_of (task_of m n))) refl (kept_in m ns all.1)
  where
    later : List Task
    later = filter (λ t. is_none (skip_of t)) (map (task_of m) ns)

    by : (b : Bool) → is_none (skip_of (task_of m n)) ≡ b → AllByRecursion (IsKept m) later
        → AllByRecursion (IsKept m) (if b then task_of m n ∷ later else later)
    by true is rest = (record { is = refl; side = on_a_side m n all.0; kept = is }, rest)
    by false is rest = rest

pub are-kept : (m : Meeting) → AllByRecursion (IsKept m) (active m)
unfolding active tasks
are-kept m = kept_in m (names m) (are_in (names m))

have_names : (m : Meeting) (ts : List Task) → AreTasks m ts → HaveNames ts
have_names m [] are = tt
have_names m (t ∷ ts) are = (are.1, have_names m ts are.2)

pub have-names : (m : Meeting) → HaveNames (active m)
have-names m = have_names m (active m) (are-active m)

stand_all : (m : Meeting) (ts : List Task) → AllByRecursion (IsKept m) ts → Stand ts m.device.databases
stand_all m [] kept = tt
stand_all m (t ∷ ts) kept = (sym (ap (λ (x : Task). x.handheld) kept.0.is), stand_all m ts kept.1)

pub stand-all : (m : Meeting) → Stand (active m) m.device.databases
stand-all m = stand_all m (active m) (are-kept m)

-- ---- why none of them is skipped

no_reason : (a : Option Action) (h r : Option DbHead) (base : Bool) → is_none (reason_by a h r base) ≡ true
    → (one_passes holds_resources h r ≡ false) × (one_passes is_read_only h r ≡ false)
no_reason a h r base is = grind (arith, common_steps)

-- ---- what a handheld's records are

pub record AreSound (records : List Record) : Type 0 where
  pub ids : AreIds (ids_of records)
  pub bounded : AreBounded records
  pub sorted : AllByRecursion HasSorted records
  pub kept : AllByRecursion IsBoundedRecord records
  pub few : length records ≤ 65535

pub bounded_ids : (records : List Record) → AllByRecursion IsBoundedRecord records → AreBounded records
bounded_ids [] all = tt
bounded_ids (r ∷ records) all = grind (arith, id_bound-is, bounded_ids records all.1)

sorted_records : (records : List Record) → AllByRecursion IsBoundedRecord records → AllByRecursion HasSorted records
sorted_records records all = grind (arith, all_weaken IsBoundedRecord HasSorted records)

pub handheld-sound : {m : Meeting} → IsSoundMeeting m → (t : Task) → t ≡ task_of m t.name → AreSound (records_of t.handheld)
handheld-sound {m} sound t is = by t.handheld (ap (λ (x : Task). x.handheld) is)
  where
    by : (h : Option DatabaseValue) → h ≡ database_of t.name m.device.databases → AreSound (records_of h)
    by None there = record { ids = tt; bounded = tt; sorted = tt; kept = tt; few = omega arith }
    by (Some d) there =
        let bounded = AllByRecursion-database_of IsBoundedDatabase t.name m.device.databases d sound.device.bounded.databases (sym there) in
        record {
          ids = AllByRecursion-database_of (λ database. AreIds (ids_of database.records)) t.name m.device.databases d sound.device.sound.ids (sym there);
          bounded = bounded_ids d.records bounded.records;
          sorted = sorted_records d.records bounded.records;
          kept = bounded.records;
          few = bounded.whole.few_records;
        }

shelf_sorted : (name : List ℕ) (databases : List DatabaseValue) (o : Option DatabaseValue) → AllByRecursion IsBoundedDatabase databases
    → o ≡ database_of name databases → AllByRecursion HasSorted (records_of o)
shelf_sorted name databases None all is = tt
shelf_sorted name databases (Some d) all is =
    sorted_records d.records (let bounded = AllByRecursion-database_of IsBoundedDatabase name databases d all (sym is) in bounded.records)

rows_sorted : (m : Meeting) → IsSoundMeeting m → (t : Task) → t ≡ task_of m t.name → AllByRecursion HasSorted (records_of t.rows)
rows_sorted m sound t is = shelf_sorted t.name (slot_of m).shelves.rows t.rows sound.slot.rows (ap (λ (x : Task). x.rows) is)

base_sorted : (m : Meeting) → IsSoundMeeting m → (t : Task) → t ≡ task_of m t.name → AllByRecursion HasSorted (base_rows t)
base_sorted m sound t is = grind (arith, is_some t.rows, shelf_sorted t.name (slot_of m).shelves.bases t.base sound.slot.bases)

-- ---- what is seen of them

view_sorted : (m : Meeting) → IsSoundMeeting m → (t : Task) → t ≡ task_of m t.name → AllByRecursion SeenSorted (view m t)
unfolding view
view_sorted m sound t is = by (is_fast m t)
  where
    own : AreSound (records_of t.handheld)
    own = handheld-sound sound t is

    by : (fast : Bool) → AllByRecursion SeenSorted (if fast then fast_view (base_rows t) (records_of t.handheld) else slow_view (records_of t.handheld))
    by true = fast-sorted (base_rows t) (records_of t.handheld) (base_sorted m sound t is) own.sorted
    by false = slow-sorted (records_of t.handheld) own.sorted

pub shows-no_other : (m : Meeting) (t : Task) → AreSound (records_of t.handheld) → ShowsNoOther (seen_held m t) (records_of t.handheld)
unfolding view sides
shows-no_other m t own = by (is_fast m t)
  where
    by : (fast : Bool)
        → ShowsNoOther (view_held (if fast then fast_view (base_rows t) (records_of t.handheld) else slow_view (records_of t.handheld))) (records_of t.handheld)
    by true = fast-no_other (base_rows t) (records_of t.handheld) own.bounded
    by false = slow-no_other (records_of t.handheld) own.bounded

show_all : {m : Meeting} (ts : List Task) → IsSoundMeeting m → AllByRecursion (IsKept m) ts → ShowAll m ts
show_all [] sound kept = tt
show_all {m} (t ∷ ts) sound kept = (shows-no_other m t (handheld-sound sound t kept.0.is), show_all ts sound kept.1)

pub show-all : (m : Meeting) → IsSoundMeeting m → ShowAll m (active m)
show-all m sound = show_all (active m) sound (are-kept m)

-- ---- all of it

abbrev sides_seen : Meeting → Task → Sides
sides_seen m t = sides_of (view m t) (records_of t.rows) (base_rows t) (not (agrees m t.name))

are_sorted : (m : Meeting) → IsSoundMeeting m → (t : Task) → t ≡ task_of m t.name → AreSorted (sides_seen m t)
are_sorted m sound t is =
    sides-sorted (view m t) (records_of t.rows) (base_rows t) (not (agrees m t.name)) (view_sorted m sound t is) (rows_sorted m sound t is) (base_sorted m sound t is)

no_zero : (m : Meeting) → IsSoundMeeting m → (t : Task) → t ≡ task_of m t.name → HasNoZero (sides_seen m t)
unfolding sides
no_zero m sound t is =
    let own = handheld-sound sound t is in
    record { base = refl; handheld = shows-no_other m t own 0 (first-zero (records_of t.handheld) own.ids) }

news_sorted : (m : Meeting) (t : Task) → AreSorted (sides_seen m t) → HasNoZero (sides_seen m t)
    → AllByRecursion IsReplacement (replacements m t) × AllByRecursion IsSorted (choice m t).adds
unfolding choice sides
news_sorted m t are none = (
  replaced-sorted (action_or_sync t.action) are none,
  adds-sorted (action_or_sync t.action) are,
)

-- the database before, by what both sides have
pub record IsBefore (m : Meeting) (t : Task) : Type 0 where
  pub b : DatabaseValue
  pub before : handheld_before t.handheld t.rows ≡ Some b
  pub named : IsName t.name
  pub own : b.head.name ≡ t.name

before_of : {m : Meeting} → IsSoundMeeting m → {t : Task} → IsKept m t → IsBefore m t
before_of {m} sound {t} is = by t.handheld t.rows refl refl is.side
  where
    by : (h r : Option DatabaseValue) → t.handheld ≡ h → t.rows ≡ r → (is_some h || is_some r) ≡ true → IsBefore m t
    by (Some d) r is_h is_r side =
        let there : database_of t.name m.device.databases ≡ Some d = sym (ap (λ (x : Task). x.handheld) is.is) ∙ is_h in
        let named = database_of-name t.name m.device.databases d there in
        let bounded = AllByRecursion-database_of IsBoundedDatabase t.name m.device.databases d sound.device.bounded.databases there in
        record {
          b = with_blocks (blocks_for t.handheld t.rows) d;
          before = ap (λ (h : Option DatabaseValue). filled_before (blocks_for t.handheld t.rows) (bare_before h t.rows)) is_h;
          named = subst IsName named bounded.head.name;
          own = named;
        }
    by None (Some d) is_h is_r side =
        let there : database_of t.name (slot_of m).shelves.rows ≡ Some d = sym (ap (λ (x : Task). x.rows) is.is) ∙ is_r in
        let named = database_of-name t.name (slot_of m).shelves.rows d there in
        let bounded = AllByRecursion-database_of IsBoundedDatabase t.name (slot_of m).shelves.rows d sound.slot.rows there in
        record {
          b = with_blocks (blocks_for t.handheld t.rows) (new_database (made_head d.head));
          before = ap {A = Option DatabaseValue × Option DatabaseValue} (λ p. filled_before (blocks_for t.handheld t.rows) (bare_before p.0 p.1))
              (λ k. (is_h k, is_r k));
          named = subst IsName named bounded.head.name;
          own = named;
        }
    by None None is_h is_r side = absurd (cc)

pub ready-of : (m : Meeting) → IsSoundMeeting m → (t : Task) → IsKept m t → IsReady m t
unfolding skip_of
ready-of m sound t is =
    grind (
      arith,
      before_of sound is,
      handheld-like t.handheld t.rows (before_of sound is).b (before_of sound is).before,
      no_reason t.action (head_of t.handheld) (head_of t.rows) (is_some t.base) is.kept,
      news_sorted m t (are_sorted m sound t is.is) (no_zero m sound t is.is),
      apart-rising 0 id_bound (replacements m t) (replaced_rise (choice m t).keep (seen_held m t)),
    )

ready_all : {m : Meeting} (ts : List Task) → IsSoundMeeting m → AllByRecursion (IsKept m) ts → AreReady m ts
ready_all [] sound kept = tt
ready_all {m} (t ∷ ts) sound kept = (ready-of m sound t kept.0, ready_all ts sound kept.1)

pub ready-all : {m : Meeting} → IsSoundMeeting m → AreReady m (active m)
ready-all {m} sound = ready_all (active m) sound (are-kept m)
