-- A handheld's folder that stands for databases and a user has no bad file, and as many files of databases as there are.
use Rattle.std.proofs.lemmas.Bool.{and_parts, or_right}
use Rattle.std.proofs.lemmas.List.{length-map}
use Rattle.std.proofs.lemmas.List.Sums.{length-filter}
use Rattle.std.proofs.lemmas.Map.Made.{length-le_from_is_member}
use Rattle.std.proofs.Common.{◌≡◌, ◌⊎◌, ◌∙◌, ◌≤◌, inl, inr, ap, refl, sym, subst, arith, ℕ, Bool, true, false, cond, List, [], ◌∷◌, ◌++◌, length, map}
use Rattle.std.specs.Prelude.{◌||◌, Option, Some, None, IsSome, MatchBool, filter, bytes_eq}
use Rattle.std.specs.FinMap as finmap
use Rattle.std.specs.FinMap.Entries.{below_all, is_sorted}
use Rattle.std.specs.List.{AllByRecursion, IsDistinct, list_any}
use Rattle.std.specs.Ordering.{is_lt, nat_cmp}
use Rattle.std.specs.Cmp.{eq_by_cmp_equiv}
use Rattle.std.specs.Cmp.Lexicographic.{slice_cmp, nat_list_cmp_total}
use Rattle.hs_folders.specs.FileMaps.{FileMap}
use Rattle.pdb_values.specs.Databases.{DatabaseValue}
use Rattle.pdb_values.specs.NamedDatabases.{database_of}
use Rattle.pdb_values.specs.declared.head.DbHead.{DbHead}
use Rattle.pdb_values.specs.declared.user.UserInfo.{UserInfo}
use Rattle.pdb_values.proofs.NamedLaws.{bytes_eq-is, database_of-name, less_differs}
use Rattle.pdb_files.specs.declared.bad_kind.BadKind.{BadKind}
use Rattle.pdb_files.proofs.FileLaws.{file-written, one_database}
use Rattle.folder_files.specs.FileNames.{database_file, device_info_file}
use Rattle.folder_files.specs.InfoFiles.{IsDeviceFile}
use Rattle.folder_files.proofs.InfoLaws.{device_only}
use Rattle.handheld_files.specs.BadFiles.{HasBadLine, IsTwice, StoredFails}
use Rattle.handheld_files.specs.Handhelds.{IsHeld, IsUserOf, StandFor, is_database_file}
use Rattle.handheld_files.specs.Openings.{IsFirstBad, among, database_count}
use Rattle.handheld_files.specs.Settled.{as_opened}
use Rattle.handheld_files.proofs.ChangeLaws.{database_file_is}
use Rattle.handheld_files.proofs.StandLaws.{as_opened-head, other_is_info}
use Rattle.desk_journal.proofs.OverlayLaws.{same_name, same_name-is, same_name-refl}
use Rattle.desk_store.proofs.CountLaws.{is_true}

-- ---- the files of a folder differ

abbrev Entries : Type 0
Entries = List (List ℕ × List ℕ)

abbrev names_of : Entries → List (List ℕ)
names_of files = map (λ file. file.0) files

differ_below : (test : List ℕ → Bool) (name : List ℕ) (files : Entries) → below_all (slice_cmp nat_cmp) name files ≡ true
    → AllByRecursion (λ other. same_name name other ≡ false) (filter test (names_of files))
differ_below test name [] below = tt
differ_below test name (file ∷ files) below =
    let both = and_parts (is_lt (slice_cmp nat_cmp name file.0)) (below_all (slice_cmp nat_cmp) name files) below in
    let later = differ_below test name files both.1 in
    elim (test file.0) as (λ b. AllByRecursion (λ other. same_name name other ≡ false)
    (cond b (file.0 ∷ filter test (names_of files)) (filter test (names_of files)))) [ true ↦ (less_differs _ both.0, later) | false ↦ later ]

distinct_files : (test : List ℕ → Bool) (files : Entries) → is_sorted (slice_cmp nat_cmp) files ≡ true → IsDistinct same_name (filter test (names_of files))
unfolding IsDistinct
distinct_files test [] sorted = tt
distinct_files test (file ∷ files) sorted =
    let both = and_parts (below_all (slice_cmp nat_cmp) file.0 files) (is_sorted (slice_cmp nat_cmp) files) sorted in
    let later = distinct_files test files both.1 in
    elim (test file.0) as (λ b. IsDistinct same_name (cond b (file.0 ∷ filter test (names_of files)) (filter test (names_of files))))
    [ true ↦ (differ_below test file.0 files both.0, later) | false ↦ later ]

-- ---- how many are of databases

in_filter : (test : List ℕ → Bool) (q : List ℕ) (names : List (List ℕ)) → list_any (same_name q) (filter test names) ≡ true
    → (test q ≡ true) × (list_any (same_name q) names ≡ true)
in_filter test q [] there = absurd cc
in_filter test q (name ∷ names) there = by (test name) (same_name q name) refl refl there (in_filter test q names)
  where
    by : (passes this : Bool) → test name ≡ passes → same_name q name ≡ this
        → list_any (same_name q) (cond passes (name ∷ filter test names) (filter test names)) ≡ true
        → (list_any (same_name q) (filter test names) ≡ true → (test q ≡ true) × (list_any (same_name q) names ≡ true))
        → (test q ≡ true) × ((this || list_any (same_name q) names) ≡ true)
    by true true e is there later = (ap test (bytes_eq-is q name (sym (same_name-is q name) ∙ is)) ∙ e, refl)
    by true false e is there later = later (sym (ap (λ (b : Bool). b || list_any (same_name q) (filter test names)) is) ∙ there)
    by false true e is there later = let rest = later there in (rest.0, refl)
    by false false e is there later = later there

abbrev files_of : List DatabaseValue → List (List ℕ)
files_of databases = map (λ (database : DatabaseValue). database_file database.head) databases

into_files : (name : List ℕ) (databases : List DatabaseValue) (found : DatabaseValue) → database_of name databases ≡ Some found
    → list_any (same_name (database_file found.head)) (files_of databases) ≡ true
into_files name [] found is = absurd cc
into_files name (database ∷ databases) found is = by (bytes_eq database.head.name name) is (into_files name databases found)
  where
    by : (this : Bool) → cond this (Some database) (database_of name databases) ≡ Some found
        → (database_of name databases ≡ Some found → list_any (same_name (database_file found.head)) (files_of databases) ≡ true)
        → (same_name (database_file found.head) (database_file database.head)
        || list_any (same_name (database_file found.head)) (files_of databases)) ≡ true
    by true is later =
        let same : database ≡ found = cc in
        ap (λ (b : Bool). b || list_any (same_name (database_file found.head)) (files_of databases))
        (ap (λ (d : DatabaseValue). same_name (database_file found.head) (database_file d.head)) same ∙ same_name-refl (database_file found.head))
    by false is later = or_right _ _ (later is)

there_is : (held : FileMap) (q : List ℕ) → list_any (same_name q) (finmap.keys held) ≡ true → (bytes : List ℕ) × (finmap.get held q ≡ Some bytes)
there_is held q there = by (finmap.get held q) refl (finmap.contains_key-keys held q ∙ there)
  where
    by : (o : Option (List ℕ)) → finmap.get held q ≡ o → IsSome o → (bytes : List ℕ) × (finmap.get held q ≡ Some bytes)
    by None is some = absurd (let no : ⊥ = cc in no)
    by (Some bytes) is some = (bytes, is)

module _ (held : FileMap) (databases : List DatabaseValue) (user : UserInfo) (stands : StandFor (finmap.get held) databases user) where
  of_database : (q : List ℕ) → list_any (same_name q) (filter is_database_file (finmap.keys held)) ≡ true
      → list_any (same_name q) (files_of databases) ≡ true
  of_database q there =
      let parts = in_filter is_database_file q (finmap.keys held) there in
      let found = there_is held q parts.1 in
      let is = stands.each_file q found.0 parts.0 found.1 in
      subst (λ (n : List ℕ). list_any (same_name n) (files_of databases) ≡ true)
      (ap database_file (as_opened-head is.stored) ∙ sym is.file.named)
      (into_files is.stored.head.name databases (as_opened is.stored) is.held)

  pub few-files : database_count held ≤ length databases
  few-files =
      let few : length (filter is_database_file (finmap.keys held)) ≤ length (files_of databases) =
      length-le_from_is_member (eq_by_cmp_equiv nat_list_cmp_total) (filter is_database_file (finmap.keys held)) (files_of databases)
      (distinct_files is_database_file (finmap.entries held) (is_true _ (finmap.entries_sorted held))) of_database in
      let count = length-filter is_database_file (finmap.keys held) in
      let files = length-map databases (λ (database : DatabaseValue). database_file database.head) in
      omega (arith, few, count, files)

-- ---- none is bad

all_names : (names : List (List ℕ)) → filter (λ (name : List ℕ). true) names ≡ names
all_names [] = refl
all_names (name ∷ names) = ap (λ (ns : List (List ℕ)). name ∷ ns) (all_names names)

distinct_keys : (held : FileMap) → IsDistinct same_name (finmap.keys held)
distinct_keys held =
    subst (IsDistinct same_name) (all_names (finmap.keys held))
    (distinct_files (λ (name : List ℕ). true) (finmap.entries held) (is_true _ (finmap.entries_sorted held)))

each_of : (P : List ℕ → Type 0) (xs : List (List ℕ)) (x : List ℕ) (ys : List (List ℕ)) → AllByRecursion P (xs ++ x ∷ ys) → P x
each_of P [] x ys all = all.0
each_of P (y ∷ xs) x ys all = each_of P xs x ys all.1

-- a name stands once among those that differ
once : (before after : List (List ℕ)) (name : List ℕ) → IsDistinct same_name (before ++ name ∷ after) → list_any (same_name name) before ≡ true → ⊥
unfolding IsDistinct
once [] after name distinct there = no_truth there
  where
    no_truth : false ≡ true → ⊥
    no_truth e = cc
once (first ∷ before) after name distinct there = by (same_name name first) refl there (once before after name distinct.1)
  where
    no_truth : (b : Bool) → b ≡ false → b ≡ true → ⊥
    no_truth b is_false is_true = cc

    by : (this : Bool) → same_name name first ≡ this → (this || list_any (same_name name) before) ≡ true
        → (list_any (same_name name) before ≡ true → ⊥) → ⊥
    by true is there later =
        let same = bytes_eq-is name first (sym (same_name-is name first) ∙ is) in
        no_truth (same_name first name) (each_of (λ other. same_name first other ≡ false) before name after distinct.0)
        (ap (same_name first) same ∙ same_name-refl first)
    by false is there later = later there

abbrev IsAmong : FileMap → List (List ℕ) → List ℕ → List ℕ → Type 0
IsAmong held names name bytes = (list_any (same_name name) names ≡ true) × (finmap.get held name ≡ Some bytes)

any_same : (name : List ℕ) (names : List (List ℕ)) → list_any (bytes_eq name) names ≡ list_any (same_name name) names
any_same name [] = refl
any_same name (first ∷ names) = ap (λ (b : Bool). b || list_any (bytes_eq name) names) (sym (same_name-is name first))
    ∙ ap (λ (b : Bool). same_name name first || b) (any_same name names)

in_among : (held : FileMap) (names : List (List ℕ)) (name : List ℕ) {bytes : List ℕ} → among names held name ≡ Some bytes → IsAmong held names name bytes
in_among held names name {bytes} is = by (list_any (bytes_eq name) names) refl is
  where
    by : (b : Bool) → list_any (bytes_eq name) names ≡ b → cond b (finmap.get held name) None ≡ Some bytes → IsAmong held names name bytes
    by true there is = (sym (any_same name names) ∙ there, is)
    by false there is = absurd (let no : ⊥ = cc in no)

module _ (held : FileMap) (databases : List DatabaseValue) (user : UserInfo) (stands : StandFor (finmap.get held) databases user) where
  -- the file of a database is no other one's
  one_file : (name bytes : List ℕ) (stored : DatabaseValue) → is_database_file name ≡ true → finmap.get held name ≡ Some bytes
      → (is : IsHeld databases name bytes) → stored ≡ is.stored → database_of stored.head.name databases ≡ Some (as_opened stored)
  one_file name bytes stored kind there is same =
      subst (λ (d : DatabaseValue). database_of d.head.name databases ≡ Some (as_opened d)) (sym same) is.held

  not_twice : (before after : List (List ℕ)) (earlier : List DatabaseValue) (owner : UserInfo) (name bytes : List ℕ) (kind : BadKind) (place : ℕ)
      → finmap.keys held ≡ before ++ name ∷ after → StandFor (among before held) earlier owner → is_database_file name ≡ true
      → finmap.get held name ≡ Some bytes → IsTwice earlier name bytes kind place → ⊥
  not_twice before after earlier owner name bytes kind place order good is_file there twice =
      by (database_of twice.stored.head.name earlier) refl twice.before
    where
      own : database_of twice.stored.head.name databases ≡ Some (as_opened twice.stored)
      own =
          let is = stands.each_file name bytes is_file there in
          one_file name bytes twice.stored is_file there is (one_database bytes twice.stored is.stored twice.file.text is.file.text)

      by : (o : Option DatabaseValue) → database_of twice.stored.head.name earlier ≡ o → IsSome o → ⊥
      by None is some = cc
      by (Some found) is some =
          let has = good.each_database twice.stored.head.name found is in
          let file = database_file has.stored.head in
          let at = in_among held before file has.there in
          let kept = stands.each_file file has.bytes (database_file_is has.stored.head) at.1 in
          let held_so = one_file file has.bytes has.stored (database_file_is has.stored.head) at.1 kept
          (one_database has.bytes has.stored kept.stored has.text kept.file.text) in
          let named : has.stored.head.name ≡ twice.stored.head.name =
          sym (ap (λ (h : DbHead). h.name) (as_opened-head has.stored)) ∙ sym (ap (λ (d : DatabaseValue). d.head.name) has.is)
          ∙ database_of-name twice.stored.head.name earlier found is in
          let both : ◌≡◌ {A = Option DatabaseValue} (Some (as_opened has.stored)) (Some (as_opened twice.stored)) =
          sym held_so ∙ ap (λ n. database_of n databases) named ∙ own in
          let same : as_opened has.stored ≡ as_opened twice.stored = cc in
          let heads : has.stored.head ≡ twice.stored.head =
          sym (as_opened-head has.stored) ∙ ap (λ (d : DatabaseValue). d.head) same ∙ as_opened-head twice.stored in
          let files : file ≡ name = ap database_file heads ∙ sym twice.file.named in
          once before after name (subst (IsDistinct same_name) order (distinct_keys held))
          (subst (λ (n : List ℕ). list_any (same_name n) before ≡ true) files at.0)

  not_bad : (name bytes : List ℕ) (kind : BadKind) (place : ℕ) → is_database_file name ≡ true → finmap.get held name ≡ Some bytes
      → StoredFails name bytes kind place → ⊥
  not_bad name bytes kind place is_file there (inl breaks) =
      let is = stands.each_file name bytes is_file there in
      let none = (file-written is.stored bytes is.file.text).none in
      let both = sym none ∙ breaks.first in cc
  not_bad name bytes kind place is_file there (inr other) =
      let is = stands.each_file name bytes is_file there in
      let same = one_database bytes is.stored other.stored is.file.text other.text in
      other.other (is.file.named ∙ ap (λ (d : DatabaseValue). database_file d.head) same)

  owned : (o : Option (List ℕ)) (bytes : List ℕ) → o ≡ Some bytes → IsUserOf o user → IsDeviceFile user bytes
  owned None bytes is owner = absurd (let no : ⊥ = cc in no)
  owned (Some found) bytes is owner = let same : found ≡ bytes = cc in subst (IsDeviceFile user) same owner

  no_line : (name bytes : List ℕ) (kind : BadKind) (place : ℕ) → name ≡ device_info_file → finmap.get held name ≡ Some bytes
      → HasBadLine bytes kind place → ⊥
  no_line name bytes kind place info there bad =
      let own = owned (finmap.get held device_info_file) bytes (ap (finmap.get held) (sym info) ∙ there) stands.owner in
      let both = sym (device_only bytes user own) ∙ bad.first in cc

  pub none-bad : (name : List ℕ) (kind : BadKind) (place : ℕ) → ¬ (IsFirstBad (finmap.keys held) held name kind place)
  none-bad name kind place bad = by (is_database_file name) refl bad.fails
    where
      by : (b : Bool) → is_database_file name ≡ b → MatchBool b (StoredFails name bad.bytes kind place ⊎ IsTwice bad.databases name bad.bytes kind place)
          (HasBadLine bad.bytes kind place) → ⊥
      by true is_file (inl fails) = not_bad name bad.bytes kind place is_file bad.there fails
      by true is_file (inr twice) =
          not_twice bad.before bad.after bad.databases bad.user name bad.bytes kind place bad.order bad.good is_file bad.there twice
      by false is_file fails = no_line name bad.bytes kind place (other_is_info name bad.is_read is_file) bad.there fails
