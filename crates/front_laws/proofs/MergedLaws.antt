-- What both sides hold under a name once all databases of a session are merged.
use Rattle.std.proofs.Common.{arith, ◌≡◌, ◌⊎◌, ℕ, List, [], ◌∷◌, refl, ap, ◌∙◌, false, cond, Option, Some, None, take, drop}
use Rattle.std.specs.Str.{bytes_eq}
use Rattle.pdb_values.specs.Databases.{DatabaseValue}
use Rattle.pdb_values.specs.NamedDatabases.{database_of}
use Rattle.pdb_values.proofs.NamedLaws.{bytes_eq-own, database_of-name, database_of-with_put}
use Rattle.palm_device.specs.Records.{with_records}
use Rattle.record_merge.specs.Merging.{merged_records}
use Rattle.session_plan.specs.Choosing.{choice, seen_held, add_count}
use Rattle.session_plan.specs.Merges.{handheld_before, put_merged, merged_databases}
use Rattle.session_plan.specs.Tasks.{Meeting, Task, task_of, slot_of}
use Rattle.front_laws.specs.Meetings.{ids_dealt}
use Rattle.sync_session.proofs.OnceLaws.{bytes_eq-swap}

-- no task has this name
abbrev pub NotNamed : List ℕ → List Task → Type 0
NotNamed name [] = Unit {0}
NotNamed name (t ∷ ts) = (bytes_eq t.name name ≡ false) × NotNamed name ts

-- tasks of a meeting, each with a name of its own
abbrev pub AreTasks : Meeting → List Task → Type 0
AreTasks m [] = Unit {0}
AreTasks m (t ∷ ts) = (t ≡ task_of m t.name) × NotNamed t.name ts × AreTasks m ts

abbrev pub IsTask : Task → List Task → Type 0
IsTask t [] = ⊥
IsTask t (u ∷ ts) = (u ≡ t) ⊎ IsTask t ts

-- ---- a change for each task

abbrev pub puts : Meeting → (Task → List ℕ → List DatabaseValue → List DatabaseValue) → List Task → List ℕ → List DatabaseValue → List DatabaseValue
puts m put [] given databases = databases
puts m put (t ∷ ts) given databases = puts m put ts (drop (add_count m t) given) (put t (take (add_count m t) given) databases)

-- a change of what stands under the task's name
pub record PutsOwn (m : Meeting) (put : Task → List ℕ → List DatabaseValue → List DatabaseValue) (own : Task → List ℕ → Option DatabaseValue
    → Option DatabaseValue) : Type 0 where
  pub other : (t : Task) (ids : List ℕ) (databases : List DatabaseValue) (name : List ℕ) → t ≡ task_of m t.name → bytes_eq t.name name ≡ false
      → database_of name (put t ids databases) ≡ database_of name databases
  pub here : (t : Task) (ids : List ℕ) (databases : List DatabaseValue) → t ≡ task_of m t.name
      → database_of t.name (put t ids databases) ≡ own t ids (database_of t.name databases)

pub others-stay : {m : Meeting} {put : Task → List ℕ → List DatabaseValue → List DatabaseValue} {own : Task → List ℕ → Option DatabaseValue → Option DatabaseValue}
    → PutsOwn m put own → (ts : List Task) (given : List ℕ) (databases : List DatabaseValue) (name : List ℕ) → AreTasks m ts → NotNamed name ts
    → database_of name (puts m put ts given databases) ≡ database_of name databases
others-stay is [] given databases name are unnamed = refl
others-stay {m} {put} is (t ∷ ts) given databases name are unnamed =
    others-stay is ts (drop (add_count m t) given) (put t (take (add_count m t) given) databases) name are.2 unnamed.1
    ∙ is.other t (take (add_count m t) given) databases name are.0 unnamed.0

not_here : (t : Task) (name : List ℕ) (ts : List Task) → NotNamed name ts → IsTask t ts → bytes_eq t.name name ≡ false
not_here t name [] unnamed is = absurd is
not_here t name (u ∷ ts) unnamed is = grind (arith, not_here t name ts unnamed.1)

pub own-changes : {m : Meeting} {put : Task → List ℕ → List DatabaseValue → List DatabaseValue}
    {own : Task → List ℕ → Option DatabaseValue → Option DatabaseValue}
    → PutsOwn m put own → (ts : List Task) (given : List ℕ) (databases : List DatabaseValue) (t : Task) → AreTasks m ts → IsTask t ts
    → database_of t.name (puts m put ts given databases) ≡ own t (ids_dealt m ts given t.name) (database_of t.name databases)
own-changes is [] given databases t are there = absurd there
own-changes {m} {put} {own} is (u ∷ ts) given databases t are there =
    grind (
      arith,
      puts m put (u ∷ ts) given databases,
      others-stay is ts (drop (add_count m u) given) (put u (take (add_count m u) given) databases) u.name are.2 are.1,
      take (add_count m u) given,
      drop (add_count m u) given,
      bytes_eq-own u.name,
      bytes_eq-swap t.name u.name,
      not_here t u.name ts are.1,
      own-changes is ts (drop (add_count m u) given) (put u (take (add_count m u) given) databases) t are.2,
    )

-- ---- the handheld

before_by : (name : List ℕ) (handheld rows : Option DatabaseValue) {b : DatabaseValue} → ((d : DatabaseValue) → handheld ≡ Some d → d.head.name ≡ name)
    → ((d : DatabaseValue) → rows ≡ Some d → d.head.name ≡ name) → handheld_before handheld rows ≡ Some b → b.head.name ≡ name
before_by name handheld rows named rows_named is = grind arith

handheld_name : (m : Meeting) (t : Task) {b : DatabaseValue} → t ≡ task_of m t.name → handheld_before t.handheld t.rows ≡ Some b → b.head.name ≡ t.name
handheld_name m t is before =
    grind (arith, before_by t.name t.handheld t.rows, database_of-name t.name m.device.databases, database_of-name t.name (slot_of m).shelves.rows)

abbrev pub merged_by : Meeting → Task → List ℕ → DatabaseValue → DatabaseValue
merged_by m t ids b = with_records (merged_records (choice m t) (seen_held m t) ids b.records) b

abbrev own_merged : Meeting → Task → List ℕ → Option DatabaseValue → Option DatabaseValue → Option DatabaseValue
own_merged m t ids None old = old
own_merged m t ids (Some b) old = Some (merged_by m t ids b)

abbrev put_handheld : Meeting → Task → List ℕ → List DatabaseValue → List DatabaseValue
put_handheld m t ids databases = put_merged m t ids (handheld_before t.handheld t.rows) databases

handheld-own : (m : Meeting) → PutsOwn m (put_handheld m) (λ t ids old. own_merged m t ids (handheld_before t.handheld t.rows) old)
handheld-own m = record {
  other = λ t ids databases name is apart. other_by t ids databases name apart (handheld_before t.handheld t.rows) (λ b e. handheld_name m t is e);
  here = λ t ids databases is. here_by t ids databases (handheld_before t.handheld t.rows) (λ b e. handheld_name m t is e);
}
  where
    other_by : (t : Task) (ids : List ℕ) (databases : List DatabaseValue) (name : List ℕ) → bytes_eq t.name name ≡ false → (o : Option DatabaseValue)
        → ((b : DatabaseValue) → o ≡ Some b → b.head.name ≡ t.name) → database_of name (put_merged m t ids o databases) ≡ database_of name databases
    other_by t ids databases name apart None named = refl
    other_by t ids databases name apart (Some b) named =
        database_of-with_put name (merged_by m t ids b) databases
        ∙ ap (λ n. cond (bytes_eq n name) (Some (merged_by m t ids b)) (database_of name databases)) (named b refl)
        ∙ ap (λ c. cond c (Some (merged_by m t ids b)) (database_of name databases)) apart

    here_by : (t : Task) (ids : List ℕ) (databases : List DatabaseValue) (o : Option DatabaseValue)
        → ((b : DatabaseValue) → o ≡ Some b → b.head.name ≡ t.name)
        → database_of t.name (put_merged m t ids o databases) ≡ own_merged m t ids o (database_of t.name databases)
    here_by t ids databases None named = refl
    here_by t ids databases (Some b) named =
        database_of-with_put t.name (merged_by m t ids b) databases
        ∙ ap (λ n. cond (bytes_eq n t.name) (Some (merged_by m t ids b)) (database_of t.name databases)) (named b refl)
        ∙ ap (λ c. cond c (Some (merged_by m t ids b)) (database_of t.name databases)) (bytes_eq-own t.name)

merged-puts : (m : Meeting) (ts : List Task) (given : List ℕ) (databases : List DatabaseValue)
    → merged_databases m ts given databases ≡ puts m (put_handheld m) ts given databases
unfolding merged_databases
merged-puts m [] given databases = refl
merged-puts m (t ∷ ts) given databases = merged-puts m ts (drop (add_count m t) given) (put_handheld m t (take (add_count m t) given) databases)

-- what the handheld has under the name of a task
pub handheld-merged : (m : Meeting) (ts : List Task) (given : List ℕ) (t : Task) (b : DatabaseValue) → AreTasks m ts → IsTask t ts
    → handheld_before t.handheld t.rows ≡ Some b
    → database_of t.name (merged_databases m ts given m.device.databases) ≡ Some (merged_by m t (ids_dealt m ts given t.name) b)
handheld-merged m ts given t b are there before =
    grind (
      arith,
      merged-puts m ts given m.device.databases,
      own-changes (handheld-own m) ts given m.device.databases t are there,
      own_merged m t (ids_dealt m ts given t.name),
    )

-- and under a name that none of them has
pub handheld-others : (m : Meeting) (ts : List Task) (given name : List ℕ) → AreTasks m ts → NotNamed name ts
    → database_of name (merged_databases m ts given m.device.databases) ≡ database_of name m.device.databases
handheld-others m ts given name are unnamed =
    ap (database_of name) (merged-puts m ts given m.device.databases) ∙ others-stay (handheld-own m) ts given m.device.databases name are unnamed
