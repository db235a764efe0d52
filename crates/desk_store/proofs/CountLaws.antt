-- How many databases have rows in all slots: as many as there are files of rows.
use Rattle.std.proofs.Common.{◌≡◌, ◌<◌, ◌≤◌, ◌+◌, ℕ, zero, suc, Bool, true, false, cond, List, [], ◌∷◌, ◌++◌, map, length, Option, None, Some, refl, sym, ap}
use Rattle.std.proofs.Common.{subst, ◌∙◌, arith}
use Rattle.std.specs.Prelude.{◌&&◌, ◌||◌, IfSome, IsSome, T, bytes_eq, codes, filter, is_some, option_and_then}
use Rattle.std.specs.FinMap as finmap
use Rattle.std.specs.FinMap.Entries.{below_all, is_sorted}
use Rattle.std.specs.List.{AllByRecursion, IsDistinct, list_all, list_any}
use Rattle.std.specs.Ordering.{is_lt, nat_cmp}
use Rattle.std.specs.Cmp.{eq_by_cmp_equiv}
use Rattle.std.specs.Cmp.Lexicographic.{slice_cmp, nat_list_cmp_total}
use Rattle.std.proofs.lemmas.Bool.{and_parts, or_right}
use Rattle.std.proofs.lemmas.List.{length-append, length-map}
use Rattle.std.proofs.lemmas.List.Folds.{list_any-append}
use Rattle.std.proofs.lemmas.List.Sums.{sum_by-cons}
use Rattle.std.proofs.lemmas.Map.Made.{length-from_same_keys}
use Rattle.hs_folders.specs.FileMaps.{FileMap}
use Rattle.pdb_values.specs.Databases.{DatabaseValue}
use Rattle.pdb_values.specs.NamedDatabases.{NamesRise, comes_before, database_of}
use Rattle.pdb_values.proofs.NamedLaws.{bytes_eq-is, bytes_eq-own, comes_before-differs_from, less_differs}
use Rattle.pdb_files.specs.Reading.{database_in}
use Rattle.folder_files.specs.FileNames.{has_ending}
use Rattle.desk_journal.proofs.OverlayLaws.{same_name, same_name-other, same_name-refl, same_name-true}
use Rattle.desk_journal.proofs.StepLaws.{all-append}
use Rattle.desk_store.specs.DeskFiles.{file_in, role_of, slot_file}
use Rattle.desk_store.specs.Desks.{IsDesk, IsDeskOf, all_rows}
use Rattle.desk_store.specs.Finds.{rows_count}
use Rattle.desk_store.specs.Shelves.{AreInOrder, SlotValue, if_bad, if_database, shelf_at}
use Rattle.desk_store.specs.declared.role.Role.TheVariants.{Rows}
use Rattle.desk_store.proofs.CommitLaws.{good_file}
use Rattle.desk_store.proofs.FileLaws.{ends}
use Rattle.desk_store.proofs.OwnLaws.{database_is_own, good_database, same_file, slot_file-ends, slot_stem}
use Rattle.desk_store.proofs.SlotListLaws.{marks-length, slot_at-any}
use Rattle.std.proofs.lemmas.Grind.{common_steps}
use Rattle.std.proofs.lemmas.Bool.Decides.{nat_tests}

pub is_true : (b : Bool) → T b → b ≡ true
is_true true t = refl
is_true false t = absurd t

-- ---- the files of a folder differ

abbrev Files : Type 0
Files = List (List ℕ × List ℕ)

abbrev names_of : Files → List (List ℕ)
names_of files = map (λ file. file.0) files

differ_below : (test : List ℕ → Bool) (name : List ℕ) (files : Files) → below_all (slice_cmp nat_cmp) name files ≡ true
    → AllByRecursion (λ other. same_name name other ≡ false) (filter test (names_of files))
differ_below test name [] below = tt
differ_below test name (file ∷ files) below =
    let both = and_parts (is_lt (slice_cmp nat_cmp name file.0)) (below_all (slice_cmp nat_cmp) name files) below in
    let later = differ_below test name files both.1 in
    elim (test file.0) as (λ b. AllByRecursion (λ other. same_name name other ≡ false)
    (cond b (file.0 ∷ filter test (names_of files)) (filter test (names_of files)))) [ true ↦ (less_differs _ both.0, later) | false ↦ later ]

distinct_files : (test : List ℕ → Bool) (files : Files) → is_sorted (slice_cmp nat_cmp) files ≡ true → IsDistinct same_name (filter test (names_of files))
unfolding IsDistinct
distinct_files test [] sorted = tt
distinct_files test (file ∷ files) sorted =
    let both = and_parts (below_all (slice_cmp nat_cmp) file.0 files) (is_sorted (slice_cmp nat_cmp) files) sorted in
    let later = distinct_files test files both.1 in
    elim (test file.0) as (λ b. IsDistinct same_name (cond b (file.0 ∷ filter test (names_of files)) (filter test (names_of files))))
    [ true ↦ (differ_below test file.0 files both.0, later) | false ↦ later ]

-- ---- the files of slots differ

-- the files of the rows of a slot
abbrev files_of : ℕ → List DatabaseValue → List (List ℕ)
files_of slot rows = map (λ database. slot_file slot Rows database.head.name) rows

-- those of slots, from this number on
abbrev files_from : ℕ → List SlotValue → List (List ℕ)
files_from number [] = []
files_from number (slot ∷ slots) = files_of number slot.shelves.rows ++ files_from (suc number) slots

differ_behind : (slot : ℕ) (name : List ℕ) (rows : List DatabaseValue) → slot < 16 → list_all (λ later. comes_before name later.head.name) rows ≡ true
    → AllByRecursion (λ other. same_name (slot_file slot Rows name) other ≡ false) (files_of slot rows)
differ_behind slot name [] few behind = tt
differ_behind slot name (database ∷ rows) few behind =
    let both = and_parts (comes_before name database.head.name) (list_all (λ later. comes_before name later.head.name) rows) behind in
    let apart : (slot_file slot Rows name ≡ slot_file slot Rows database.head.name → ⊥) =
    λ e. (let same : name ≡ database.head.name = (same_file slot slot Rows Rows name database.head.name few few e).2 in
    let yes : bytes_eq database.head.name name ≡ true = ap (bytes_eq database.head.name) same
    ∙ bytes_eq-own database.head.name in cc (sym (comes_before-differs_from name database.head.name both.0) ∙ yes)) in
    (same_name-other _ _ apart, differ_behind slot name rows few both.1)

distinct_rows : (slot : ℕ) (rows : List DatabaseValue) → slot < 16 → NamesRise rows → IsDistinct same_name (files_of slot rows)
unfolding IsDistinct
distinct_rows slot [] few rise = tt
distinct_rows slot (database ∷ rows) few rise = (differ_behind slot database.head.name rows few rise.0, distinct_rows slot rows few rise.1)

other_rows : (slot other : ℕ) (name : List ℕ) (rows : List DatabaseValue) → slot < other → other < 16
    → AllByRecursion (λ file. same_name (slot_file slot Rows name) file ≡ false) (files_of other rows)
other_rows slot other name [] less few = tt
other_rows slot other name (database ∷ rows) less few =
    let small : slot < 16 = omega (arith, less, few) in (
      same_name-other _ _ (λ e. let same : slot ≡ other = (same_file slot other Rows Rows name database.head.name small few e).0 in omega (arith, same, less)),
      other_rows slot other name rows less few,
    )

other_slots : (slot other : ℕ) (name : List ℕ) (slots : List SlotValue) → slot < other → other + length slots ≤ 16
    → AllByRecursion (λ file. same_name (slot_file slot Rows name) file ≡ false) (files_from other slots)
other_slots slot other name [] less few = tt
other_slots slot other name (first ∷ slots) less few =
    all-append (λ file. same_name (slot_file slot Rows name) file ≡ false) (files_of other first.shelves.rows) (files_from (suc other) slots)
    (other_rows slot other name first.shelves.rows less (omega arith)) (other_slots slot (suc other) name slots (omega arith) (omega arith))

distinct-append : (xs ys : List (List ℕ)) → IsDistinct same_name xs → IsDistinct same_name ys
    → AllByRecursion (λ x. AllByRecursion (λ y. same_name x y ≡ false) ys) xs → IsDistinct same_name (xs ++ ys)
unfolding IsDistinct
distinct-append [] ys first later apart = later
distinct-append (x ∷ xs) ys first later apart = (all-append (λ y. same_name x y ≡ false) xs ys first.0 apart.0, distinct-append xs ys first.1 later apart.1)

distinct_none : IsDistinct same_name []
unfolding IsDistinct
distinct_none = tt

distinct_slots : (number : ℕ) (slots : List SlotValue) → number + length slots ≤ 16 → AreInOrder slots → IsDistinct same_name (files_from number slots)
distinct_slots number [] few ordered = distinct_none
distinct_slots number (slot ∷ slots) few ordered =
    distinct-append (files_of number slot.shelves.rows) (files_from (suc number) slots) (distinct_rows number slot.shelves.rows (omega arith) ordered.0.rows)
    (distinct_slots (suc number) slots (omega arith) ordered.1) (apart slot.shelves.rows)
  where
    apart : (rows : List DatabaseValue) → AllByRecursion (λ x. AllByRecursion (λ y. same_name x y ≡ false) (files_from (suc number) slots))
        (files_of number rows)
    apart [] = tt
    apart (database ∷ rows) = (other_slots number (suc number) database.head.name slots (omega arith) (omega arith), apart rows)

-- ---- the same files

any_filter : (test : List ℕ → Bool) (q : List ℕ) (names : List (List ℕ)) → list_any (same_name q) (filter test names) ≡ (test q && list_any (same_name q) names)
any_filter test q [] = grind (arith, common_steps, nat_tests)
any_filter test q (name ∷ names) = by (test name) (same_name q name) refl refl (any_filter test q names)
  where
    by : (passes this : Bool) → test name ≡ passes → same_name q name ≡ this
        → list_any (same_name q) (filter test names) ≡ (test q && list_any (same_name q) names)
        → list_any (same_name q) (cond passes (name ∷ filter test names) (filter test names)) ≡ (test q && (this || list_any (same_name q) names))
    by true true e is later = let here : test q ≡ true = ap test (same_name-true q name is) ∙ e in rw (is, here) refl
    by true false e is later = rw is later
    by false true e is later = let here : test q ≡ false = ap test (same_name-true q name is) ∙ e in later ∙ rw here refl
    by false false e is later = later

in_rows : (slot : ℕ) (q : List ℕ) (rows : List DatabaseValue) → list_any (same_name q) (files_of slot rows) ≡ true
    → (name : List ℕ) × (q ≡ slot_file slot Rows name) × IsSome (database_of name rows)
in_rows slot q [] there = absurd cc
in_rows slot q (database ∷ rows) there = grind (arith, common_steps, nat_tests, same_name, in_rows slot q rows, same_name-true, bytes_eq-own)

into_rows : (slot : ℕ) (name : List ℕ) (rows : List DatabaseValue) → IsSome (database_of name rows)
    → list_any (same_name (slot_file slot Rows name)) (files_of slot rows) ≡ true
into_rows slot name [] some = absurd cc
into_rows slot name (database ∷ rows) some = by (bytes_eq database.head.name name) refl some (into_rows slot name rows)
  where
    by : (this : Bool) → bytes_eq database.head.name name ≡ this → IsSome (cond this (Some database) (database_of name rows))
        → (IsSome (database_of name rows) → list_any (same_name (slot_file slot Rows name)) (files_of slot rows) ≡ true)
        → (same_name (slot_file slot Rows name) (slot_file slot Rows database.head.name) || list_any (same_name (slot_file slot Rows name))
        (files_of slot rows)) ≡ true
    by true is some later =
        let same : same_name (slot_file slot Rows name) (slot_file slot Rows database.head.name) ≡ true =
        ap (λ (n : List ℕ). same_name (slot_file slot Rows name) (slot_file slot Rows n)) (bytes_eq-is database.head.name name is)
        ∙ same_name-refl (slot_file slot Rows name) in
        ap (λ (b : Bool). b || list_any (same_name (slot_file slot Rows name)) (files_of slot rows)) same
    by false is some later = or_right _ _ (later some)

-- the file is that of the rows of a name in the slot at a place
pub record IsRowsFile (slots : List SlotValue) (number : ℕ) (file : List ℕ) : Type 0 where
  pub place : ℕ
  pub name : List ℕ
  pub there : place < length slots
  pub named : file ≡ slot_file (number + place) Rows name
  pub some : IsSome (database_of name (shelf_at slots place Rows))

shelf_at-next : (first : SlotValue) (slots : List SlotValue) (place : ℕ) → place < length slots
    → shelf_at (first ∷ slots) (suc place) Rows ≡ shelf_at slots place Rows
shelf_at-next first slots place less = grind (arith, common_steps, nat_tests, slot_at-any)

in_slots : (number : ℕ) (q : List ℕ) (slots : List SlotValue) → list_any (same_name q) (files_from number slots) ≡ true → IsRowsFile slots number q
in_slots number q [] there = absurd cc
in_slots number q (slot ∷ slots) there = by (list_any (same_name q) (files_of number slot.shelves.rows)) refl
    (sym (list_any-append (same_name q) (files_of number slot.shelves.rows) (files_from (suc number) slots)) ∙ there) (in_slots (suc number) q slots)
  where
    by : (b : Bool) → list_any (same_name q) (files_of number slot.shelves.rows) ≡ b
        → (list_any (same_name q) (files_of number slot.shelves.rows) || list_any (same_name q) (files_from (suc number) slots)) ≡ true
        → (list_any (same_name q) (files_from (suc number) slots) ≡ true → IsRowsFile slots (suc number) q) → IsRowsFile (slot ∷ slots) number q
    by true is there later =
        let found = in_rows number q slot.shelves.rows is in
        let place : number ≡ number + 0 = omega arith in
        record { place = 0; name = found.0; there = omega arith; named = found.1 ∙ ap (λ (k : ℕ). slot_file k Rows found.0) place; some = found.2 }
    by false is there later =
        let found = later (rw is at there) in
        let place : suc number + found.place ≡ number + suc found.place = omega arith in
        record {
          place = suc found.place;
          name = found.name;
          there = omega (arith, found.there);
          named = found.named ∙ ap (λ (k : ℕ). slot_file k Rows found.name) place;
          some = subst (λ (rows : List DatabaseValue). IsSome (database_of found.name rows))
              (sym (shelf_at-next slot slots found.place found.there)) found.some;
        }

into_slots : (number : ℕ) (slots : List SlotValue) (place : ℕ) (name : List ℕ) → place < length slots → IsSome (database_of name (shelf_at slots place Rows))
    → list_any (same_name (slot_file (number + place) Rows name)) (files_from number slots) ≡ true
into_slots number [] place name less some = absurd (omega arith)
into_slots number (slot ∷ slots) zero name less some =
    let place : number ≡ number + 0 = omega arith in
    subst (λ (k : ℕ). list_any (same_name (slot_file k Rows name)) (files_from number (slot ∷ slots)) ≡ true) place
    (list_any-append (same_name (slot_file number Rows name)) (files_of number slot.shelves.rows) (files_from (suc number) slots)
    ∙ ap (λ (b : Bool). b || list_any (same_name (slot_file number Rows name)) (files_from (suc number) slots)) (into_rows number name slot.shelves.rows some))
into_slots number (slot ∷ slots) (suc place) name less some =
    let next : suc number + place ≡ number + suc place = omega arith in
    let later = into_slots (suc number) slots place name (omega arith)
    (subst (λ (rows : List DatabaseValue). IsSome (database_of name rows)) (shelf_at-next slot slots place (omega arith)) some) in
    subst (λ (k : ℕ). list_any (same_name (slot_file k Rows name)) (files_from number (slot ∷ slots)) ≡ true) next
    (list_any-append (same_name (slot_file (suc number + place) Rows name)) (files_of number slot.shelves.rows) (files_from (suc number) slots)
    ∙ or_right _ _ later)

-- ---- the files of rows in a folder

rows_file_there : {held : FileMap} {slots : List SlotValue} (place : ℕ) (name : List ℕ) → IsDeskOf held slots → place < length slots
    → IsSome (database_of name (shelf_at slots place Rows)) → IsSome (finmap.get held (slot_file place Rows name))
rows_file_there {held} {slots} place name is less there = by (finmap.get held (slot_file place Rows name))
    (sym (ap is_some (is.shelved place Rows name less)) ∙ there)
  where
    by : (bytes : Option (List ℕ)) → IsSome (option_and_then (λ b. if_database (file_in (length slots) (slot_file place Rows name) b)) bytes) → IsSome bytes
    by (Some bytes) some = refl
    by None some = some

rows_there : {held : FileMap} {slots : List SlotValue} (file : List ℕ) → IsDeskOf held slots → has_ending (codes ".pdb") file ≡ true
    → IsSome (finmap.get held file) → IsRowsFile slots 0 file
rows_there {held} {slots} file is ending there = by (finmap.get held file) refl there
  where
    by : (o : Option (List ℕ)) → finmap.get held file ≡ o → IsSome o → IsRowsFile slots 0 file
    by None here some = absurd cc
    by (Some bytes) here some =
        let kind : role_of file ≡ Some Rows = rw ending refl in
        let good : if_bad (file_in (length slots) file bytes) ≡ None = good_file held (length slots) file here (is.good file) in
        let found = good_database (length slots) file bytes kind good in
        let own = database_is_own (length slots) file bytes found.1 in
        let name = (database_in bytes).head.name in
        let place : found.0 ≡ 0 + found.0 = omega arith in
        record {
          place = found.0;
          name = name;
          there = own.within;
          named = own.named ∙ ap (λ (k : ℕ). slot_file k Rows name) place;
          some = ap is_some (is.shelved found.0 Rows name own.within
              ∙ (ap (λ (f : List ℕ). option_and_then (λ b. if_database (file_in (length slots) f b)) (finmap.get held f)) (sym own.named)
              ∙ (ap (option_and_then (λ b. if_database (file_in (length slots) file b))) here ∙ ap if_database found.1)));
        }

pub same_truth : (a b : Bool) → (a ≡ true → b ≡ true) → (b ≡ true → a ≡ true) → a ≡ b
same_truth a b forth back = grind (arith, common_steps, nat_tests)

same_members : {held : FileMap} {slots : List SlotValue} → IsDeskOf held slots → (q : List ℕ)
    → list_any (same_name q) (files_from 0 slots) ≡ list_any (same_name q) (filter (has_ending (codes ".pdb")) (finmap.keys held))
same_members {held} {slots} is q =
    same_truth _ _ (λ there. (
    let found = in_slots 0 q slots there in
    let place : 0 + found.place ≡ found.place = omega arith in
    let named : q ≡ slot_file found.place Rows found.name = found.named ∙ ap (λ (k : ℕ). slot_file k Rows found.name) place in
    let ending : has_ending (codes ".pdb") q ≡ true = ap (has_ending (codes ".pdb")) (named ∙ slot_file-ends found.place Rows found.name)
    ∙ ends (slot_stem found.place found.name) (codes ".pdb") in
    let file : IsSome (finmap.get held q) = subst (λ (n : List ℕ). IsSome (finmap.get held n)) (sym named)
    (rows_file_there found.place found.name is found.there found.some) in
    any_filter (has_ending (codes ".pdb")) q (finmap.keys held) ∙ rw (ending, sym (finmap.contains_key-keys held q) ∙ file) refl
    )) (λ there. (
    let both = and_parts (has_ending (codes ".pdb") q) (list_any (same_name q) (finmap.keys held))
    (sym (any_filter (has_ending (codes ".pdb")) q (finmap.keys held)) ∙ there) in
    let found = rows_there q is both.0 (finmap.contains_key-keys held q ∙ both.1) in
    subst (λ (n : List ℕ). list_any (same_name n) (files_from 0 slots) ≡ true) (sym found.named)
    (into_slots 0 slots found.place found.name found.there found.some)
    ))

files-length : (number : ℕ) (slots : List SlotValue) → length (files_from number slots) ≡ all_rows slots
files-length number [] = refl
files-length number (slot ∷ slots) = grind (arith, common_steps, nat_tests, sum_by-cons, length-append, length-map, files-length (suc number) slots)

pub told_number : (told : Option FileMap) (slots : List SlotValue) → IsDesk told slots → IfSome told (λ held. all_rows slots ≡ rows_count (finmap.keys held))
told_number None slots is = tt
told_number (Some held) slots is =
    sym (files-length 0 slots)
    ∙ length-from_same_keys (eq_by_cmp_equiv nat_list_cmp_total) (files_from 0 slots) (filter (has_ending (codes ".pdb")) (finmap.keys held))
    (distinct_slots 0 slots (omega (arith, is.formed.few, marks-length slots)) is.ordered)
    (distinct_files (has_ending (codes ".pdb")) (finmap.entries held) (is_true _ (finmap.entries_sorted held))) (same_members is.stands)
