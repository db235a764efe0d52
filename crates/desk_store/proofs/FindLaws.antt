-- Reading one file more, and the first bad one.
use Rattle.std.proofs.Common.{◌≡◌, ◌<◌, ◌≤◌, inl, inr, ◌||◌, ◌++◌, ℕ, zero, suc, Bool, true, false, cond, List, [], ◌∷◌, length, map, get_or, Option, None}
use Rattle.std.proofs.Common.{Some, Result, Ok, Err, refl, sym, ap, subst, ◌∙◌, arith, rules}
use Rattle.std.specs.Prelude.{bytes_eq, is_some, option_and_then}
use Rattle.std.specs.FinMap as finmap
use Rattle.std.specs.List.{list_any}
use Rattle.std.specs.Option.{option_map, option_or}
use Rattle.std.specs.Ordering.{eq_by_cmp, nat_cmp}
use Rattle.std.specs.Cmp.Lexicographic.{slice_cmp}
use Rattle.std.proofs.lemmas.Map.Text.{is_eq-slice_cmp}
use Rattle.hs_folders.specs.FileMaps.{FileMap}
use Rattle.pdb_values.specs.Databases.{DatabaseValue}
use Rattle.pdb_values.specs.NamedDatabases.{database_of}
use Rattle.pdb_values.proofs.NamedLaws.{bytes_eq-is, bytes_eq-own}
use Rattle.pdb_files.specs.declared.bad_kind.BadKind.TheVariants as kinds
use Rattle.folder_files.specs.FileNames.{journal_file}
use Rattle.desk_journal.specs.Overlays.{bad_of}
use Rattle.desk_journal.specs.declared.bad_journal.BadJournal.{BadJournal}
use Rattle.desk_store.specs.DeskFiles.{file_in, slot_file}
use Rattle.desk_store.specs.Finds.{Adds, AddsAny, FindsAll, RefusesAmong, RefusesAt, first_bad, is_among, with_database_at}
use Rattle.folder_files.specs.Slots.{SlotInfoValue}
use Rattle.desk_store.specs.Shelves.{SlotValue, bad_at, bare_slot, database_at, file_at, if_bad, if_database, infos_of, new_slot, number_of, shelf_at}
use Rattle.desk_store.specs.Shelves.{shelf_of, slots_in}
use Rattle.desk_store.specs.declared.file_fault.BadDeskFile.{BadDeskFile}
use Rattle.desk_store.specs.declared.file.DeskFile.{DeskFile}
use Rattle.desk_store.specs.declared.file.DeskFile.TheVariants as files
use Rattle.desk_store.specs.declared.role.Role.{Role}
use Rattle.desk_store.specs.declared.role.Role.TheVariants.{Rows, Base, Archive}
use Rattle.desk_store.specs.declared.fault.DeskOpenFault.{DeskOpenFault}
use Rattle.desk_store.proofs.OwnLaws.{IsOwn, database_is_own, journal_is_bad, same_file}
use Rattle.desk_store.proofs.SlotListLaws.{database_of-with_at, infos_of-with, length-with}
use Rattle.std.proofs.lemmas.Grind.{common_steps}
use Rattle.std.proofs.lemmas.Bool.Decides.{nat_tests}
use Rattle.pdb_files.proofs.FileLaws.{or_none}

-- ---- names

among_more : (names : List (List ℕ)) (file name : List ℕ) → is_among (names ++ file ∷ []) name ≡ (is_among names name || bytes_eq name file)
among_more [] file name = grind (arith, common_steps, nat_tests)
among_more (first ∷ names) file name = grind (arith, common_steps, nat_tests, among_more names file name)

-- a name that is not among those of a folder's files has no file
absent : (held : FileMap) (name : List ℕ) → is_among (finmap.keys held) name ≡ false → finmap.get held name ≡ None
absent held name none = nothing (finmap.get held name) (finmap.contains_key-keys held name ∙ (same_test (finmap.keys held) ∙ none))
  where
    nothing : (o : Option (List ℕ)) → is_some o ≡ false → o ≡ None
    nothing None e = refl
    nothing (Some bytes) e = absurd cc

    same_test : (names : List (List ℕ)) → list_any (eq_by_cmp (slice_cmp nat_cmp) name) names ≡ is_among names name
    same_test [] = refl
    same_test (first ∷ names) = ap (λ (b : Bool). b || list_any (eq_by_cmp (slice_cmp nat_cmp) name) names) (is_eq-slice_cmp name first)
        ∙ ap (λ (b : Bool). bytes_eq name first || b) (same_test names)

-- ---- the first bad file

first_bad-append : (held : FileMap) (slots : ℕ) (names others : List (List ℕ))
    → first_bad held slots (names ++ others) ≡ option_or (first_bad held slots names) (first_bad held slots others)
first_bad-append held slots [] others = refl
first_bad-append held slots (name ∷ names) others = grind (arith, common_steps, nat_tests, first_bad-append held slots names others)

pub refused_among : (held : FileMap) (slots : ℕ) (names rest : List (List ℕ)) (name : List ℕ) (fault : DeskOpenFault) → first_bad held slots names ≡ None
    → RefusesAt name (bad_at held slots name) fault → RefusesAmong (first_bad held slots (names ++ name ∷ rest)) fault
refused_among held slots names rest name fault none is = search (rules, first_bad-append)

-- ---- one file more

-- what is found where these names are read
abbrev where_read : {A : Type 0} → Bool → Option A → Option A
where_read read found = cond read found None

-- a file that holds nothing of this changes nothing
unchanged : {A : Type 0} (before this : Bool) {found : Option A} → (this ≡ true → found ≡ None) → where_read (before || this) found ≡ where_read before found
unchanged false true none = none refl
unchanged before this none = refl

get_file : (held : FileMap) (file q : List ℕ) → bytes_eq q file ≡ true → finmap.get held q ≡ finmap.get held file
get_file held file q same = ap (finmap.get held) (bytes_eq-is q file same)

-- what stands in the file, by what it holds
database_there : (held : FileMap) (slots : ℕ) {bytes : List ℕ} (file : List ℕ) (slot : ℕ) (role : Role) (name : List ℕ) → finmap.get held file ≡ Some bytes
    → bytes_eq (slot_file slot role name) file ≡ true → database_at held slots slot role name ≡ if_database (file_in slots file bytes)
database_there held slots file slot role name there same = grind (arith, common_steps, nat_tests, bytes_eq-is)

-- a file that holds no database changes no slot
same_shelf : (held : FileMap) (slots : ℕ) (names : List (List ℕ)) (file : List ℕ) (slot : ℕ) (role : Role) (name : List ℕ) {found : Option DatabaseValue}
    → found ≡ where_read (is_among names (slot_file slot role name)) (database_at held slots slot role name)
    → (bytes_eq (slot_file slot role name) file ≡ true → database_at held slots slot role name ≡ None)
    → found ≡ where_read (is_among (names ++ file ∷ []) (slot_file slot role name)) (database_at held slots slot role name)
same_shelf held slots names file slot role name is none = grind (arith, common_steps, nat_tests, unchanged, among_more)

still_good : (held : FileMap) (slots : ℕ) (names : List (List ℕ)) (file : List ℕ) → first_bad held slots names ≡ None → bad_at held slots file ≡ None
    → first_bad held slots (names ++ file ∷ []) ≡ None
still_good held slots names file so_far good = grind (arith, common_steps, nat_tests, first_bad-append)

bad_is : (held : FileMap) (slots : ℕ) {bytes : List ℕ} (file : List ℕ) {said : Result DeskFile BadDeskFile} → finmap.get held file ≡ Some bytes
    → file_in slots file bytes ≡ said → bad_at held slots file ≡ if_bad said
bad_is held slots file there says = grind (arith, common_steps, nat_tests)

-- what is found in these files, on a desktop with so many slots
abbrev AreRead : FileMap → ℕ → List (List ℕ) → List SlotValue → Type 0
AreRead held number names slots =
    (slot : ℕ) (role : Role) (name : List ℕ) → slot < number
    → database_of name (shelf_at slots slot role) ≡ where_read (is_among names (slot_file slot role name)) (database_at held number slot role name)

pub or_true : (b : Bool) → (b || true) ≡ true
or_true true = refl
or_true false = refl

-- a slot with the database of its file more
slot_more : (held : FileMap) (names : List (List ℕ)) {bytes : List ℕ} (file : List ℕ) {slot : ℕ} {role : Role} {database : DatabaseValue}
    (old : List SlotValue) (place : ℕ) (own : Role) (name : List ℕ)
    → length old ≤ 16 → finmap.get held file ≡ Some bytes → file_in (length old) file bytes ≡ Ok (files.Database slot role database)
    → AreRead held (length old) names old → place < length old
    → database_of name (shelf_at (with_database_at slot role database old) place own) ≡ where_read (is_among (names ++ file ∷ []) (slot_file place own name))
    (database_at held (length old) place own name)
slot_more held names {bytes} file {slot} {role} {database} old place own name few there says so_far less =
    elim (database_of-with_at slot role database old place own name less) [
      | inl here ↦
          let same : bytes_eq (slot_file place own name) file ≡ true = ap (bytes_eq (slot_file place own name)) (is.named ∙ names_agree here)
          ∙ bytes_eq-own (slot_file place own name) in
          let held_there : database_at held (length old) place own name ≡ Some database = database_there held (length old) file place own name there same
          ∙ ap if_database says in
          here.3
          ∙ (sym held_there
          ∙ (ap (λ (b : Bool). where_read b (database_at held (length old) place own name)) (sym (or_true (is_among names (slot_file place own name))))
          ∙ (ap (λ (b : Bool). where_read (is_among names (slot_file place own name) || b) (database_at held (length old) place own name)) (sym same)
          ∙ ap (λ (b : Bool). where_read b (database_at held (length old) place own name)) (sym (among_more names file (slot_file place own name))))))
      | inr other ↦
          other.1 ∙ same_shelf held (length old) names file place own name (so_far place own name less) (λ yes. absurd (
          let parts = same_file place slot own role name database.head.name (omega (arith, less, few)) (omega (arith, is.within, few))
          (bytes_eq-is (slot_file place own name) file yes ∙ is.named) in
          other.0 parts.0 parts.1 (sym parts.2)
          ))
    ]
  where
    is : IsOwn (length old) slot role file database
    is = database_is_own (length old) file bytes says

    names_agree : (place ≡ slot) × (own ≡ role) × (database.head.name ≡ name) ×
        (database_of name (shelf_at (with_database_at slot role database old) place own) ≡ Some database)
        → slot_file slot role database.head.name ≡ slot_file place own name
    names_agree here = ap (λ (k : ℕ). slot_file k role database.head.name) (sym here.0)
        ∙ (ap (λ (r : Role). slot_file place r database.head.name) (sym here.1) ∙ ap (slot_file place own) here.2)

file_more : {held : FileMap} {names : List (List ℕ)} {bytes : List ℕ} (file : List ℕ) {old : List SlotValue} (new : List SlotValue)
    (said : Result DeskFile BadDeskFile)
    → length old ≤ 16 → finmap.get held file ≡ Some bytes → file_in (length old) file bytes ≡ said → Adds said old new → FindsAll held names old
    → FindsAll held (names ++ file ∷ []) new
file_more {held} {names} file {old} new (Ok (files.Database slot role database)) few there says adds so_far =
    let count : length old ≡ length (with_database_at slot role database old) = sym (length-with slot role database old) in
    subst (FindsAll held (names ++ file ∷ [])) (sym adds)
    (record {
      marked = infos_of-with slot role database old ∙ so_far.marked;
      good = ap (λ (n : ℕ). first_bad held n (names ++ file ∷ [])) (sym count)
          ∙ still_good held (length old) names file so_far.good (bad_is held (length old) file there says);
      shelved = subst (λ (n : ℕ). AreRead held n (names ++ file ∷ []) (with_database_at slot role database old)) count
          (λ place own name less. slot_more held names file old place own name few there says so_far.shelved less);
    })
file_more {held} {names} file {old} new (Ok files.Other) few there says adds so_far =
    subst (FindsAll held (names ++ file ∷ [])) (sym adds)
    (record {
      marked = so_far.marked;
      good = still_good held (length old) names file so_far.good (bad_is held (length old) file there says);
      shelved = λ slot role name less. same_shelf held (length old) names file slot role name (so_far.shelved slot role name less)
          (λ yes. database_there held (length old) file slot role name there yes ∙ ap if_database says);
    })
file_more file new (Err bad) few there says adds so_far = absurd adds

-- one file more was read
pub found_more : {held : FileMap} {names : List (List ℕ)} (file : List ℕ) {old new : List SlotValue} → length old ≤ 16 → FindsAll held names old
    → AddsAny (file_at held (length old) file) old new → FindsAll held (names ++ file ∷ []) new
found_more {held} {names} file {old} {new} few so_far adds = by_file (finmap.get held file) refl adds
  where
    by_file : (o : Option (List ℕ)) → finmap.get held file ≡ o → AddsAny (option_map (file_in (length old) file) o) old new
        → FindsAll held (names ++ file ∷ []) new
    by_file (Some bytes) there adds = file_more file new (file_in (length old) file bytes) few there refl adds so_far
    by_file None there adds =
        subst (FindsAll held (names ++ file ∷ [])) (sym adds)
        (record {
          marked = so_far.marked;
          good = still_good held (length old) names file so_far.good
              (ap (λ (o : Option (List ℕ)). option_and_then if_bad (option_map (file_in (length old) file) o)) there);
          shelved = λ slot role name less. same_shelf held (length old) names file slot role name (so_far.shelved slot role name less)
              (λ yes. ap (option_and_then (λ b. if_database (file_in (length old) (slot_file slot role name) b)))
              (get_file held file (slot_file slot role name) yes ∙ there));
        })

-- what is known of slots without databases
pub infos_of-bare : (infos : List SlotInfoValue) → infos_of (map bare_slot infos) ≡ infos
infos_of-bare [] = refl
infos_of-bare (info ∷ infos) = ap (λ (more : List SlotInfoValue). info ∷ more) (infos_of-bare infos)

-- nothing was read yet
pub found_none : {held : FileMap} {infos : List SlotInfoValue} {slots : List SlotValue} → infos ≡ slots_in held → slots ≡ map bare_slot infos
    → FindsAll held [] slots
found_none {held} {infos} known is = subst (FindsAll held []) (sym is) (record {
  marked = infos_of-bare infos ∙ known;
  good = refl;
  shelved = λ slot role name less. nothing infos slot role name (new_slot (number_of (map bare_slot infos))) (λ r n. in_new r n);
})
  where
    in_new : (role : Role) (name : List ℕ) → database_of name (shelf_of (new_slot (number_of (map bare_slot infos))).shelves role) ≡ None
    in_new Rows name = refl
    in_new Base name = refl
    in_new Archive name = refl

    nothing : (known : List SlotInfoValue) (slot : ℕ) (role : Role) (name : List ℕ) (d : SlotValue)
        → ((r : Role) (n : List ℕ) → database_of n (shelf_of d.shelves r) ≡ None)
        → database_of name (shelf_of (get_or (map bare_slot known) slot d).shelves role) ≡ None
    nothing [] slot role name d none = none role name
    nothing (first ∷ known) zero Rows name d none = refl
    nothing (first ∷ known) zero Base name d none = refl
    nothing (first ∷ known) zero Archive name d none = refl
    nothing (first ∷ known) (suc slot) role name d none = nothing known slot role name d none

-- ---- all files

at_all : {A : Type 0} (read : Bool) {found held_at : Option A} → found ≡ where_read read held_at → (read ≡ false → held_at ≡ None) → found ≡ held_at
at_all true is none = is
at_all false is none = is ∙ sym (none refl)

pub all_databases : {held : FileMap} {slots : List SlotValue} → FindsAll held (finmap.keys held) slots → (slot : ℕ) (role : Role) (name : List ℕ)
    → slot < length slots → database_of name (shelf_at slots slot role) ≡ database_at held (length slots) slot role name
all_databases is slot role name less = grind (arith, common_steps, nat_tests, at_all, absent)

-- ---- a bad journal

abbrev with_name : List ℕ → BadDeskFile → List ℕ × BadDeskFile
with_name name bad = (name, bad)

not_bad : (o : Option BadDeskFile) (name : List ℕ) → option_map (with_name name) o ≡ None → o ≡ None
not_bad None name e = refl
not_bad (Some bad) name e = absurd cc

good_among : (held : FileMap) (slots : ℕ) (names : List (List ℕ)) (q : List ℕ) → first_bad held slots names ≡ None → is_among names q ≡ true
    → bad_at held slots q ≡ None
good_among held slots [] q good there = absurd cc
good_among held slots (name ∷ names) q good there = grind (arith, common_steps, nat_tests, or_none, good_among held slots names q, bytes_eq-is, not_bad)

pub good_all : (held : FileMap) (slots : ℕ) → first_bad held slots (finmap.keys held) ≡ None → (q : List ℕ) → bad_at held slots q ≡ None
good_all held slots good q = grind (arith, common_steps, nat_tests, good_among, absent)

pub no_bad_journal : (held : FileMap) (slots : ℕ) {bad : BadJournal} → first_bad held slots (finmap.keys held) ≡ None
    → Some bad ≡ bad_of (finmap.get held journal_file) → ⊥
no_bad_journal held slots {bad} good is = by_journal (finmap.get held journal_file) refl is
  where
    by_journal : (o : Option (List ℕ)) → finmap.get held journal_file ≡ o → Some bad ≡ bad_of o → ⊥
    by_journal None there e = cc e
    by_journal (Some bytes) there e =
        let found : bad_at held slots journal_file ≡ Some (record { kind = kinds.Journal; place = bad.place }) = bad_is held slots journal_file there
        (journal_is_bad slots bytes (sym e)) in
        cc (sym (good_all held slots good journal_file) ∙ found)
