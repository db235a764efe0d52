-- A database that a session skips stays as both sides had it, and the next session skips it too.
use Rattle.std.proofs.Common.{◌≡◌, ◌⊎◌, inl, inr, ◌∙◌, ◌||◌, ap, sym, refl, ℕ, true, List, [], ◌∷◌, is_none, is_some}
use Rattle.std.specs.Prelude.{Option, Some, None}
use Rattle.pdb_values.specs.Databases.{DatabaseValue}
use Rattle.pdb_values.specs.NamedDatabases.{database_of}
use Rattle.palm_device.specs.Devices.{Device}
use Rattle.desk_store.specs.Shelves.{ShelvesValue, SlotValue}
use Rattle.run_words.specs.Actions.{action_for}
use Rattle.session_plan.specs.Merges.{merged_device, merged_slot}
use Rattle.session_plan.specs.Skips.{active, head_of, reason_by, skip_of}
use Rattle.session_plan.specs.Tasks.{Meeting, action_of_word, slot_of, task_of}
use Rattle.front_laws.specs.Meetings.{AsksTheSame, IsActive}
use Rattle.front_laws.proofs.MergedLaws.{handheld-others}
use Rattle.front_laws.proofs.ShelfLaws.{archive-head, archive_in, base-head, base_in, rows-head, rows_in, shelf-others}
use Rattle.front_laws.proofs.TaskLaws.{are-active, device-name, on_a_side, rows-name}
use Rattle.front_laws.specs.Again.{AllRunAgain, AllSkip, HoldsTheSame, Later, last_run}
use Rattle.front_laws.proofs.FrontLaws.{front-among, front-behind}
use Rattle.front_laws.proofs.NameLaws.{not-active}
use Rattle.front_laws.proofs.WholeLaws.{device_databases, slot_shelves}

-- ---- a whole session

pub left-whole : (m : Meeting) (given name : List ℕ) → (IsActive m name → ⊥) → HoldsTheSame m (merged_device m given) (merged_slot m given) name
left-whole m given name idle =
    let tasks = active m in
    let are = are-active m in
    let unnamed = not-active m name idle in
    let old = (slot_of m).shelves in
    let shelves = slot_shelves m given in
    record {
      handheld = ap (λ (ds : List DatabaseValue). database_of name ds) (device_databases m given) ∙ handheld-others m tasks given name are unnamed;
      rows = ap (λ (s : ShelvesValue). database_of name s.rows) shelves
          ∙ shelf-others (λ s. s.rows) rows_in (λ x s. refl) rows-head m tasks given old name are unnamed;
      base = ap (λ (s : ShelvesValue). database_of name s.bases) shelves
          ∙ shelf-others (λ s. s.bases) base_in (λ x s. refl) base-head m tasks given old name are unnamed;
      archive = ap (λ (s : ShelvesValue). database_of name s.archives) shelves
          ∙ shelf-others (λ s. s.archives) archive_in (λ x s. refl) archive-head m tasks given old name are unnamed;
    }

-- ---- the next one

one_side : (h r : Option DatabaseValue) → (is_some h || is_some r) ≡ true → (is_some h ≡ true) ⊎ (is_some r ≡ true)
one_side (Some h) r there = inl refl
one_side None (Some r) there = inr refl
one_side None None there = absurd (cc)

skips-again : {m next : Meeting} {name : List ℕ} → AsksTheSame m next → HoldsTheSame m next.device (slot_of next) name → (IsActive m name → ⊥)
    → IsActive next name → ⊥
unfolding skip_of
skips-again {m} {next} {name} asks same idle is =
    let t = task_of m name in
    let action = ap (λ items. action_of_word (action_for name items)) asks.actions in
    let side : (is_some t.handheld || is_some t.rows) ≡ true =
    sym (λ k. is_some (same.handheld k) || is_some (same.rows k)) ∙ on_a_side next name is.there in
    idle (record {
      there = elim (one_side t.handheld t.rows side) [
        | inl there ↦ device-name m name there
        | inr there ↦ rows-name m name there
      ];
      kept = sym (λ k. is_none (reason_by (action k) (head_of (same.handheld k)) (head_of (same.rows k)) (is_some (same.base k)))) ∙ is.kept;
    })

same_then : {m next : Meeting} {device : Device} {slot : SlotValue} {name : List ℕ} → HoldsTheSame m next.device (slot_of next) name
    → HoldsTheSame next device slot name → HoldsTheSame m device slot name
same_then first second = record {
  handheld = second.handheld ∙ first.handheld;
  rows = second.rows ∙ first.rows;
  base = second.base ∙ first.base;
  archive = second.archive ∙ first.archive;
}

same_slot : {m : Meeting} {device : Device} {before slot : SlotValue} {name : List ℕ} → slot ≡ before → HoldsTheSame m device before name
    → HoldsTheSame m device slot name
same_slot {name} is same = record {
  handheld = same.handheld;
  rows = ap (λ (s : SlotValue). database_of name s.shelves.rows) is ∙ same.rows;
  base = ap (λ (s : SlotValue). database_of name s.shelves.bases) is ∙ same.base;
  archive = ap (λ (s : SlotValue). database_of name s.shelves.archives) is ∙ same.archive;
}

-- a session that stopped left it so
pub left-stopped : (m : Meeting) {e : Later} {name : List ℕ} → AllRunAgain m (e ∷ []) → (IsActive m name → ⊥)
    → HoldsTheSame m e.next.device (slot_of e.next) name
left-stopped m {e} {name} runs idle = elim runs.2.slot [
  | inl (slot, few) ↦
      same_slot slot (record {
        handheld = (front-among m e.writes e.given e.next.device runs.0 runs.1 runs.2.front few).others name idle;
        rows = refl;
        base = refl;
        archive = refl;
      })
  | inr (slot, most) ↦
      let whole = left-whole m e.given name idle in
      same_slot slot (record {
        handheld = (front-behind m e.writes e.given e.next.device runs.0 runs.1 runs.2.front most).others name idle;
        rows = whole.rows;
        base = whole.base;
        archive = whole.archive;
      })
]

-- ---- all of them

-- behind some sessions a database is as the first one found it
left-later : (first m : Meeting) (es : List Later) (later name : List ℕ) → AllRunAgain m es → HoldsTheSame first m.device (slot_of m) name
    → (IsActive m name → ⊥) → AllSkip first es name
    × HoldsTheSame first (merged_device (last_run m es) later) (merged_slot (last_run m es) later) name
left-later first m [] later name runs same idle = (tt, same_then same (left-whole m later name idle))
left-later first m (e ∷ es) later name runs same idle =
    let now = left-stopped m {e = e} (runs.0, runs.1, runs.2, tt) idle in
    let next_idle = skips-again runs.2.asks now idle in
    let next_same = same_then same now in
    let rest = left-later first e.next es later name runs.3 next_same next_idle in
    ((next_idle, next_same, rest.0), rest.1)

pub left-again : (m : Meeting) (es : List Later) (later name : List ℕ) → AllRunAgain m es → (IsActive m name → ⊥)
    → AllSkip m es name × HoldsTheSame m (merged_device (last_run m es) later) (merged_slot (last_run m es) later) name
left-again m es later name runs idle =
    left-later m m es later name runs (record { handheld = refl; rows = refl; base = refl; archive = refl }) idle
