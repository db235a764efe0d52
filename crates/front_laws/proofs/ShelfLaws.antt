-- What the desktop holds under a name once all databases of a session are merged.
use Rattle.std.proofs.Common.{arith, ◌≡◌, ℕ, List, [], ◌∷◌, ◌++◌, refl, ap, ◌∙◌, true, false, Option, Some, None, take, drop}
use Rattle.std.specs.Str.{bytes_eq}
use Rattle.pdb_values.specs.Contents.{ContentValue}
use Rattle.pdb_values.specs.Databases.{DatabaseValue}
use Rattle.pdb_values.specs.NamedDatabases.{database_of}
use Rattle.pdb_values.specs.declared.record.Record.{Record}
use Rattle.pdb_values.proofs.NamedLaws.{bytes_eq-own, database_of-name, database_of-with_put}
use Rattle.record_merge.specs.Merging.{merged_archive, one_copy_behind}
use Rattle.desk_store.specs.Shelves.{ShelvesValue}
use Rattle.session_plan.specs.Archives.{archive_records, entries_of}
use Rattle.session_plan.specs.Choosing.{choice, add_count}
use Rattle.session_plan.specs.Merges.{rows_before, archive_of, DesktopMerge, merged_of, put_archive, shelved, shelve, merged_shelves}
use Rattle.session_plan.specs.Tasks.{Meeting, Task, task_of, slot_of, records_of}
use Rattle.front_laws.specs.Meetings.{ids_dealt}
use Rattle.front_laws.proofs.MergedLaws.{AreTasks, IsTask, NotNamed, PutsOwn, others-stay, puts, own-changes}
use Rattle.session_plan.proofs.ArchiveLaws.{entries-records}

-- ---- one role of a merged database

-- a role's database, under the head of the rows
abbrev pub HasHead : (DesktopMerge → Option DatabaseValue) → Type 0
HasHead f = (m : Meeting) (t : Task) (ids : List ℕ) (r d : DatabaseValue) → f (merged_of m t ids r) ≡ Some d → d.head.name ≡ r.head.name

abbrev pub rows_in : DesktopMerge → Option DatabaseValue
rows_in x = Some x.rows

abbrev pub base_in : DesktopMerge → Option DatabaseValue
base_in x = Some x.base

abbrev pub archive_in : DesktopMerge → Option DatabaseValue
archive_in x = x.archive

pub rows-head : HasHead rows_in
rows-head m t ids r d is = grind arith

pub base-head : HasHead base_in
base-head m t ids r d is = grind arith

archive_head : (r : DatabaseValue) {d : DatabaseValue} (records : List Record) → archive_of r records ≡ Some d → d.head.name ≡ r.head.name
archive_head r records is = grind arith

pub archive-head : HasHead archive_in
archive-head m t ids r d is = archive_head r (archive_records (merged_archive (choice m t) (entries_of (records_of t.archive)))) is

abbrev put_role : (DesktopMerge → Option DatabaseValue) → Meeting → Task → List ℕ → Option DatabaseValue → List DatabaseValue → List DatabaseValue
put_role f m t ids None databases = databases
put_role f m t ids (Some r) databases = put_archive (f (merged_of m t ids r)) databases

abbrev pub if_put : Option DatabaseValue → Option DatabaseValue → Option DatabaseValue
if_put None old = old
if_put (Some d) old = Some d

abbrev own_role : (DesktopMerge → Option DatabaseValue) → Meeting → Task → List ℕ → Option DatabaseValue → Option DatabaseValue → Option DatabaseValue
own_role f m t ids None old = old
own_role f m t ids (Some r) old = if_put (f (merged_of m t ids r)) old

rows_name_by : (name : List ℕ) (date : ℕ) (rows handheld : Option DatabaseValue) {r : DatabaseValue}
    → ((d : DatabaseValue) → rows ≡ Some d → d.head.name ≡ name) → ((d : DatabaseValue) → handheld ≡ Some d → d.head.name ≡ name)
    → rows_before date rows handheld ≡ Some r → r.head.name ≡ name
rows_name_by name date rows handheld named handheld_named is = grind arith

pub rows_name : (m : Meeting) (t : Task) {r : DatabaseValue} → t ≡ task_of m t.name → rows_before m.wishes.date t.rows t.handheld ≡ Some r
    → r.head.name ≡ t.name
rows_name m t is before =
    grind (
      arith,
      rows_name_by t.name m.wishes.date t.rows t.handheld,
      database_of-name t.name (slot_of m).shelves.rows,
      database_of-name t.name m.device.databases,
    )

abbrev put_task : (DesktopMerge → Option DatabaseValue) → Meeting → Task → List ℕ → List DatabaseValue → List DatabaseValue
put_task f m t ids databases = put_role f m t ids (rows_before m.wishes.date t.rows t.handheld) databases

looked_other : (name : List ℕ) (o : Option DatabaseValue) (databases : List DatabaseValue)
    → ((d : DatabaseValue) → o ≡ Some d → bytes_eq d.head.name name ≡ false) → database_of name (put_archive o databases) ≡ database_of name databases
looked_other name None databases apart = refl
looked_other name (Some d) databases apart = grind (arith, database_of-with_put name d databases)

looked_here : (name : List ℕ) (o : Option DatabaseValue) (databases : List DatabaseValue)
    → ((d : DatabaseValue) → o ≡ Some d → bytes_eq d.head.name name ≡ true)
    → database_of name (put_archive o databases) ≡ if_put o (database_of name databases)
looked_here name None databases same = refl
looked_here name (Some d) databases same = grind (arith, database_of-with_put name d databases)

role-own : (f : DesktopMerge → Option DatabaseValue) → HasHead f → (m : Meeting)
    → PutsOwn m (put_task f m) (λ t ids old. own_role f m t ids (rows_before m.wishes.date t.rows t.handheld) old)
role-own f head m = record {
  other = λ t ids databases name is apart. other_by t ids databases name apart (rows_before m.wishes.date t.rows t.handheld) (λ r e. rows_name m t is e);
  here = λ t ids databases is. here_by t ids databases (rows_before m.wishes.date t.rows t.handheld) (λ r e. rows_name m t is e);
}
  where
    other_by : (t : Task) (ids : List ℕ) (databases : List DatabaseValue) (name : List ℕ) → bytes_eq t.name name ≡ false → (o : Option DatabaseValue)
        → ((r : DatabaseValue) → o ≡ Some r → r.head.name ≡ t.name) → database_of name (put_role f m t ids o databases) ≡ database_of name databases
    other_by t ids databases name apart None named = refl
    other_by t ids databases name apart (Some r) named =
        looked_other name (f (merged_of m t ids r)) databases (λ d e. ap (λ n. bytes_eq n name) (head m t ids r d e ∙ named r refl) ∙ apart)

    here_by : (t : Task) (ids : List ℕ) (databases : List DatabaseValue) (o : Option DatabaseValue)
        → ((r : DatabaseValue) → o ≡ Some r → r.head.name ≡ t.name)
        → database_of t.name (put_role f m t ids o databases) ≡ own_role f m t ids o (database_of t.name databases)
    here_by t ids databases None named = refl
    here_by t ids databases (Some r) named =
        looked_here t.name (f (merged_of m t ids r)) databases (λ d e. ap (λ n. bytes_eq n t.name) (head m t ids r d e ∙ named r refl) ∙ bytes_eq-own t.name)

-- a shelf of the merged ones
abbrev pub IsShelf : (ShelvesValue → List DatabaseValue) → (DesktopMerge → Option DatabaseValue) → Type 0
IsShelf g f = (x : DesktopMerge) (shelves : ShelvesValue) → g (shelved x shelves) ≡ put_archive (f x) (g shelves)

shelf-puts : (g : ShelvesValue → List DatabaseValue) (f : DesktopMerge → Option DatabaseValue) → IsShelf g f
    → (m : Meeting) (ts : List Task) (given : List ℕ) (shelves : ShelvesValue)
    → g (merged_shelves m ts given shelves) ≡ puts m (put_task f m) ts given (g shelves)
unfolding merged_shelves
shelf-puts g f is m [] given shelves = refl
shelf-puts g f is m (t ∷ ts) given shelves =
    grind (
      arith,
      shelf-puts g f is m ts (drop (add_count m t) given)
          (shelve m t (take (add_count m t) given) (rows_before m.wishes.date t.rows t.handheld) shelves),
    )

pub shelf-merged : (g : ShelvesValue → List DatabaseValue) (f : DesktopMerge → Option DatabaseValue) → IsShelf g f → HasHead f
    → (m : Meeting) (ts : List Task) (given : List ℕ) (shelves : ShelvesValue) (t : Task) {r : DatabaseValue} → AreTasks m ts → IsTask t ts
    → rows_before m.wishes.date t.rows t.handheld ≡ Some r
    → database_of t.name (g (merged_shelves m ts given shelves)) ≡ if_put (f (merged_of m t (ids_dealt m ts given t.name) r)) (database_of t.name (g shelves))
shelf-merged g f is head m ts given shelves t are there before =
    grind (
      arith,
      shelf-puts g f is m ts given shelves,
      own-changes (role-own f head m) ts given (g shelves) t are there,
      own_role f m t (ids_dealt m ts given t.name),
    )

-- what the session doesn't take stays
pub shelf-others : (g : ShelvesValue → List DatabaseValue) (f : DesktopMerge → Option DatabaseValue) → IsShelf g f → HasHead f
    → (m : Meeting) (ts : List Task) (given : List ℕ) (shelves : ShelvesValue) (name : List ℕ) → AreTasks m ts → NotNamed name ts
    → database_of name (g (merged_shelves m ts given shelves)) ≡ database_of name (g shelves)
shelf-others g f is head m ts given shelves name are unnamed =
    ap (database_of name) (shelf-puts g f is m ts given shelves) ∙ others-stay (role-own f head m) ts given (g shelves) name are unnamed

-- ---- an archive that is written, or left as it is

nothing_old : (old new : List (ℕ × ContentValue)) → one_copy_behind [] (old ++ new) ≡ [] → old ≡ []
nothing_old [] new is = refl
nothing_old (e ∷ old) new is = absurd (cc)

pub archive-entries : (r : DatabaseValue) (was : Option DatabaseValue) (new : List (ℕ × ContentValue))
    → entries_of (records_of (if_put (archive_of r (archive_records (one_copy_behind [] (entries_of (records_of was) ++ new)))) was)) ≡ one_copy_behind []
    (entries_of (records_of was) ++ new)
archive-entries r was new = by (one_copy_behind [] (entries_of (records_of was) ++ new)) refl
  where
    by : (es : List (ℕ × ContentValue)) → one_copy_behind [] (entries_of (records_of was) ++ new) ≡ es
        → entries_of (records_of (if_put (archive_of r (archive_records es)) was)) ≡ es
    by [] is = nothing_old (entries_of (records_of was)) new is
    by (e ∷ es) is = entries-records (e ∷ es)
