-- A meeting behind a whole session finds each database merged.
use Rattle.std.proofs.Common.{arith, ◌&&◌, false, is_none, ◌≡◌, ◌||◌, ℕ, List, [], ◌∷◌, refl, ap, ◌∙◌, sym, subst, true, Option, Some, is_some}
use Rattle.pdb_values.specs.Databases.{DatabaseValue}
use Rattle.pdb_values.specs.NamedDatabases.{database_of}
use Rattle.conduit_rules.specs.Choices.{Choice}
use Rattle.conduit_rules.specs.States.{SideState}
use Rattle.record_merge.specs.Merging.{merged_archive, merged_base, merged_records, merged_rows}
use Rattle.desk_store.specs.Shelves.{SlotValue}
use Rattle.session_plan.specs.Archives.{entries_of}
use Rattle.session_plan.specs.Choosing.{action_or_sync, choice, seen_held, sides}
use Rattle.session_plan.specs.Merges.{handheld_before, rows_before, merged_device, merged_databases, merged_slot, merged_shelves}
use Rattle.run_words.specs.Actions.{action_for}
use Rattle.session_plan.specs.Skips.{active, head_of}
use Rattle.session_plan.specs.Tasks.{action_of_word, Meeting, Task, task_of, slot_of, records_of}
use Rattle.front_laws.specs.Meetings.{IsLikeFirst, StandsLike, found, found_of, action_at, ids_dealt, ids_at, holding_after, IsActive, IsMergedAt, LeftAtEnd}
use Rattle.front_laws.specs.Meetings.{LeftMerged, AllFollow, last_of, places_of}
use Rattle.front_laws.specs.Renaming.{AreUnknown, SameEnds}
use Rattle.front_laws.specs.Repeats.{IsRead, ended, chosen, shown, GotAllIds, Place, AreStops, all_ids}
use Rattle.front_laws.proofs.MeetingLaws.{meetings-same}
use Rattle.front_laws.proofs.MergedLaws.{NotNamed, handheld-merged}
use Rattle.front_laws.proofs.ShelfLaws.{shelf-merged, shelf-others, rows_in, base_in, archive_in, rows-head, base-head, archive-head, archive-entries}
use Rattle.front_laws.proofs.TaskLaws.{are-active, is-active, on_a_side, rows-name}
use Rattle.front_laws.proofs.SkipLaws.{handheld-like, rows-like, kept-stays}

-- what is chosen of a database is what a session chooses of it
pub chosen-is : (m : Meeting) (t : Task) → choice m t ≡ chosen (action_or_sync t.action) (found m t)
unfolding choice sides
chosen-is m t = refl

pub shown-is : (m : Meeting) (t : Task) → seen_held m t ≡ shown (found m t)
unfolding sides
shown-is m t = refl

some_of : (o : Option DatabaseValue) → is_some o ≡ true → (d : DatabaseValue) × (o ≡ Some d)
some_of o is = grind arith

rows_there : (date : ℕ) (h r : Option DatabaseValue) → (is_some h || is_some r) ≡ true → is_some (rows_before date r h) ≡ true
rows_there date h r there = grind arith

handheld_there : (h r : Option DatabaseValue) → (is_some h || is_some r) ≡ true → is_some (handheld_before h r) ≡ true
handheld_there h r there = grind arith

pub before_records : (h r : Option DatabaseValue) {b : DatabaseValue} → handheld_before h r ≡ Some b → b.records ≡ records_of h
before_records h r is = grind arith

-- the slot's shelves are the merged ones
pub slot_shelves : (m : Meeting) (given : List ℕ) → (merged_slot m given).shelves ≡ merged_shelves m (active m) given (slot_of m).shelves
unfolding merged_slot
slot_shelves m given = refl

pub device_databases : (m : Meeting) (given : List ℕ) → (merged_device m given).databases ≡ merged_databases m (active m) given m.device.databases
unfolding merged_device
device_databases m given = refl

-- what the session doesn't take stays as it was on the desktop
pub record IsUntouched (m next : Meeting) (name : List ℕ) : Type 0 where
  pub rows : (task_of next name).rows ≡ (task_of m name).rows
  pub base : (task_of next name).base ≡ (task_of m name).base

pub untouched-at : (m next : Meeting) (given : List ℕ) (name : List ℕ) → slot_of next ≡ merged_slot m given → NotNamed name (active m)
    → IsUntouched m next name
untouched-at m next given name slot unnamed =
    let shelves = ap (λ (s : SlotValue). s.shelves) slot ∙ slot_shelves m given in
    record {
      rows = ap (λ s. database_of name s.rows) shelves
          ∙ shelf-others (λ s. s.rows) rows_in (λ x s. refl) rows-head m (active m) given (slot_of m).shelves name (are-active m) unnamed;
      base = ap (λ s. database_of name s.bases) shelves
          ∙ shelf-others (λ s. s.bases) base_in (λ x s. refl) base-head m (active m) given (slot_of m).shelves name (are-active m) unnamed;
    }

pub merged-at : (m next : Meeting) (given : List ℕ) (name : List ℕ) → slot_of next ≡ merged_slot m given → IsActive m name
    → IsMergedAt next name (ended (action_at m name) (found_of m name) (ids_dealt m (active m) given name))
merged-at m next given name slot is =
    let t = task_of m name in
    let before = rows_before m.wishes.date t.rows t.handheld in
    let r = some_of before (rows_there m.wishes.date t.handheld t.rows (on_a_side m name is.there)) in
    let ids = ids_dealt m (active m) given name in
    let shelves = ap (λ (s : SlotValue). s.shelves) slot ∙ slot_shelves m given in
    let is_task = is-active m name is.there is.kept in
    let rows = ap (λ s. database_of name s.rows) shelves
    ∙ shelf-merged (λ s. s.rows) rows_in (λ x s. refl) rows-head m (active m) given (slot_of m).shelves t (are-active m) is_task r.1 in
    let base = ap (λ s. database_of name s.bases) shelves
    ∙ shelf-merged (λ s. s.bases) base_in (λ x s. refl) base-head m (active m) given (slot_of m).shelves t (are-active m) is_task r.1 in
    let archive = ap (λ s. database_of name s.archives) shelves
    ∙ shelf-merged (λ s. s.archives) archive_in (λ x s. refl) archive-head m (active m) given (slot_of m).shelves t (are-active m) is_task r.1 in
    record {
      there = ap is_some rows;
      rows = ap records_of rows ∙ ap (λ c. merged_rows c ids) (chosen-is m t);
      base = ap records_of base ∙ ap {A = Choice × (ℕ → SideState)} (λ p. merged_base p.0 p.1 ids) (λ k. (chosen-is m t k, shown-is m t k));
      archive = ap (λ o. entries_of (records_of o)) archive ∙ archive-entries r.0 t.archive (choice m t).archive
          ∙ ap (λ c. merged_archive c (entries_of (records_of t.archive))) (chosen-is m t);
    }

pub whole-found : (m next : Meeting) (given : List ℕ) (name : List ℕ) → LeftMerged m next given → IsActive m name
    → LeftAtEnd m next (ids_dealt m (active m) given) name
whole-found m next given name left is =
    let t = task_of m name in
    let b = some_of (handheld_before t.handheld t.rows) (handheld_there t.handheld t.rows (on_a_side m name is.there)) in
    let ids = ids_dealt m (active m) given name in
    let databases = ap (database_of name) (left.databases ∙ device_databases m given)
    ∙ handheld-merged m (active m) given t b.0 (are-active m) (is-active m name is.there is.kept) b.1 in
    record {
      asks = left.asks;
      merged = merged-at m next given name left.slot is;
      records = ap records_of databases
          ∙ ap (merged_records (choice m t) (seen_held m t) ids) (before_records t.handheld t.rows b.1)
          ∙ ap {A = Choice × (ℕ → SideState)} (λ p. merged_records p.0 p.1 ids (records_of t.handheld)) (λ k. (chosen-is m t k, shown-is m t k));
    }

-- ---- what both sides hold

-- a meeting with these sides
abbrev behind : Meeting → List ℕ → Meeting
behind m given = record { device = merged_device m given; slots = merged_slot m given ∷ []; picked = 0; wishes = m.wishes }

pub holds-end : (m : Meeting) (given : List ℕ) (name : List ℕ) → IsActive m name
    → holding_after m given name ≡ ended (action_at m name) (found_of m name) (ids_at m given name)
holds-end m given name is =
    grind (arith, whole-found m (behind m given) given name (record { asks = record { actions = refl; slow = refl }; databases = refl; slot = refl }) is)

pub meetings-hold : (m : Meeting) (name : List ℕ) (es : List (Meeting × Place)) (later new : List ℕ) → IsActive m name → IsActive (last_of m es) name
    → AllFollow m name es → IsRead (found_of m name) → AreStops (action_at m name) (found_of m name) (places_of es)
    → GotAllIds (action_at m name) (found_of (last_of m es) name) (ids_at (last_of m es) later name)
    → AreUnknown (found_of m name) (all_ids (action_at m name) (places_of es) (ids_at (last_of m es) later name))
    → GotAllIds (action_at m name) (found_of m name) (ids_at m new name) → AreUnknown (found_of m name) (ids_at m new name)
    → SameEnds (found_of m name) (holding_after (last_of m es) later name) (holding_after m new name)
meetings-hold m name es later new is last_is follow read stops got un new_got new_un =
    grind (
      arith,
      holds-end (last_of m es) later name last_is,
      holds-end m new name is,
      meetings-same m name es (ids_at (last_of m es) later name) (ids_at m new name) follow read stops got un new_got new_un,
    )

-- ---- no database is skipped that wasn't

stands-like : (m next : Meeting) {given : List ℕ} (name : List ℕ) → LeftMerged m next given → IsActive m name → StandsLike m next name
stands-like m next {given} name left is =
    let t = task_of m name in
    let ids = ids_at m given name in
    let b = some_of (handheld_before t.handheld t.rows) (handheld_there t.handheld t.rows (on_a_side m name is.there)) in
    let r = some_of (rows_before m.wishes.date t.rows t.handheld) (rows_there m.wishes.date t.handheld t.rows (on_a_side m name is.there)) in
    let is_task = is-active m name is.there is.kept in
    let handheld : head_of (task_of next name).handheld ≡ Some b.0.head =
    ap head_of (ap (database_of name) (left.databases ∙ device_databases m given) ∙ handheld-merged m (active m) given t b.0 (are-active m) is_task b.1) in
    let shelves = ap (λ (s : SlotValue). s.shelves) left.slot ∙ slot_shelves m given in
    let rows : head_of (task_of next name).rows ≡ Some r.0.head =
    ap head_of (ap (λ s. database_of name s.rows) shelves
    ∙ shelf-merged (λ s. s.rows) rows_in (λ x s. refl) rows-head m (active m) given (slot_of m).shelves t (are-active m) is_task r.1) in
    record {
      action = ap (λ items. action_of_word (action_for name items)) left.asks.actions;
      handheld = subst (IsLikeFirst (head_of t.handheld) (head_of t.rows)) (sym handheld) (handheld-like t.handheld t.rows b.0 b.1);
      rows = subst (IsLikeFirst (head_of t.rows) (head_of t.handheld)) (sym rows) (rows-like m.wishes.date t.handheld t.rows r.1);
      has_handheld = λ none. absurd (let no : false ≡ true = sym (ap is_none handheld) ∙ none in cc);
      has_rows = λ none. absurd (let no : false ≡ true = sym (ap is_none rows) ∙ none in cc);
      has_base = λ both. absurd (let no : false ≡ true = sym (ap (λ o. is_none o && is_some (task_of next name).base) handheld) ∙ both in cc);
    }

pub active-again : (m next : Meeting) (given : List ℕ) (name : List ℕ) → LeftMerged m next given → IsActive m name → IsActive next name
active-again m next given name left is =
    grind (arith, rows-name next name (merged-at m next given name left.slot is).there, kept-stays m next name (stands-like m next name left is) is.kept)
