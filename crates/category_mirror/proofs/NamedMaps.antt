-- Databases of which each is changed, and keeps its name; and the names of a session.
use Rattle.std.proofs.lemmas.Bool.{and_parts}
use Rattle.std.proofs.Common.{arith, ◌≡◌, ◌∙◌, ap, refl, sym, subst, ℕ, Bool, true, false, cond, List, [], ◌∷◌, ◌&&◌, ◌||◌, map}
use Rattle.std.specs.Prelude.{Option, Some, find, insert, if◌then◌else◌}
use Rattle.std.specs.List.{list_all, list_any, position_or_len}
use Rattle.std.specs.Option.{option_map}
use Rattle.std.specs.Str.{bytes_eq}
use Rattle.pdb_values.specs.Databases.{DatabaseValue}
use Rattle.pdb_values.specs.NamedDatabases.{NamesRise, comes_before, database_of}
use Rattle.pdb_values.specs.declared.head.DbHead.{DbHead}
use Rattle.pdb_values.proofs.NamedLaws.{bytes_eq-is, bytes_eq-own, comes_before-differs, database_of-same}
use Rattle.session_plan.specs.Jobs.{head_named}
use Rattle.session_plan.specs.Tasks.{names_of, with_name, with_names}
use Rattle.category_mirror.specs.Sides.{heads_of, is_among}
use Rattle.folder_files.proofs.ValueLaws.{or_first}
use Rattle.desk_store.proofs.FindLaws.{or_true}
use Rattle.session_plan.proofs.ArchiveLaws.{or_later}
use Rattle.session_plan.proofs.RiseLaws.{at_place, at_place-cons}

-- ---- each changed, under its name

-- the change of a database keeps its name
pub record KeepsNames (f : DatabaseValue → DatabaseValue) : Type 0 where
  pub at : (database : DatabaseValue) → (f database).head.name ≡ database.head.name

module _ {f : DatabaseValue → DatabaseValue} (keeps : KeepsNames f) where
  pub database_of-map : (name : List ℕ) (xs : List DatabaseValue) → database_of name (map f xs) ≡ option_map f (database_of name xs)
  database_of-map name [] = refl
  database_of-map name (x ∷ xs) =
      ap (λ n. cond (bytes_eq n name) (Some (f x)) (database_of name (map f xs))) (keeps.at x)
      ∙ ap (λ (o : Option DatabaseValue). cond (bytes_eq x.head.name name) (Some (f x)) o) (database_of-map name xs)
      ∙ by (bytes_eq x.head.name name)
    where
      by : (b : Bool) → cond b (Some (f x)) (option_map f (database_of name xs)) ≡ option_map f (cond b (Some x) (database_of name xs))
      by true = refl
      by false = refl

  behind-map : (name : List ℕ) (xs : List DatabaseValue)
      → list_all (λ (later : DatabaseValue). comes_before name later.head.name) (map f xs)
      ≡ list_all (λ (later : DatabaseValue). comes_before name later.head.name) xs
  behind-map name [] = refl
  behind-map name (x ∷ xs) = λ k. comes_before name (keeps.at x k) && behind-map name xs k

  pub NamesRise-map : (xs : List DatabaseValue) → NamesRise xs → NamesRise (map f xs)
  NamesRise-map [] rise = tt
  NamesRise-map (x ∷ xs) rise = (
    ap (λ n. list_all (λ (later : DatabaseValue). comes_before n later.head.name) (map f xs)) (keeps.at x) ∙ behind-map x.head.name xs ∙ rise.0,
    NamesRise-map xs rise.1,
  )

  -- a list that has each database so under its name
  pub map-is : (xs ys : List DatabaseValue) → NamesRise xs → NamesRise ys
      → ((name : List ℕ) (o : Option DatabaseValue) → database_of name xs ≡ o → database_of name ys ≡ option_map f o) → ys ≡ map f xs
  map-is xs ys rise other each =
      database_of-same ys (map f xs) other (NamesRise-map xs rise)
      (λ name. each name (database_of name xs) refl ∙ sym (database_of-map name xs))

-- ---- heads

find-by : {A B : Type 0} (b : Bool) (f : A → B) (x : A) (rest : Option A)
    → (if b then Some (f x) else option_map f rest) ≡ option_map f (if b then Some x else rest)
find-by true f x rest = refl
find-by false f x rest = refl

-- what is found among these is made of what is found so before
pub find-map : {A B : Type 0} (test : B → Bool) (f : A → B) (xs : List A) → find test (map f xs) ≡ option_map f (find (λ x. test (f x)) xs)
find-map test f [] = refl
find-map test f (x ∷ xs) = rw (find-map test f xs) (find-by (test (f x)) f x (find (λ x. test (f x)) xs))

abbrev pub listed_of : DatabaseValue → DbHead
listed_of database = record database.head { seed = 0 }

pub head-named : (name : List ℕ) (databases : List DatabaseValue) → head_named name (heads_of databases) ≡ option_map listed_of (database_of name databases)
head-named name databases = find-map (λ (head : DbHead). bytes_eq head.name name) listed_of databases

-- ---- names that are among others

any-at_place : (test : List ℕ → Bool) (name : List ℕ) (names : List (List ℕ))
    → list_any test (at_place name names) ≡ (test name || list_any test names)
any-at_place test name [] = refl
any-at_place test name (n ∷ names) =
    ap (list_any test) (at_place-cons name n names) ∙ by (comes_before name n) (any-at_place test name names)
  where
    by : (b : Bool) → list_any test (at_place name names) ≡ (test name || list_any test names)
        → list_any test (cond b (name ∷ n ∷ names) (n ∷ at_place name names)) ≡ (test name || (test n || list_any test names))
    by true later = refl
    by false later = ap (λ b. test n || b) later ∙ or_later (test n) (test name) (list_any test names)

among-at : (test : List ℕ → Bool) (name : List ℕ) (names : List (List ℕ)) → test name ≡ true
    → list_any test (insert names (position_or_len (λ other. comes_before name other) names) name) ≡ true
among-at test name names here = any-at_place test name names ∙ ap (λ b. b || list_any test names) here

among-more : (test : List ℕ → Bool) (name : List ℕ) (names : List (List ℕ)) → list_any test names ≡ true
    → list_any test (insert names (position_or_len (λ other. comes_before name other) names) name) ≡ true
among-more test name names here = any-at_place test name names ∙ ap (λ b. test name || b) here ∙ or_true (test name)

among-own : (name : List ℕ) (names : List (List ℕ)) → is_among name (with_name name names) ≡ true
among-own name names = by (list_any (λ other. bytes_eq other name) names) refl
  where
    by : (b : Bool) → list_any (λ other. bytes_eq other name) names ≡ b
        → is_among name (if b then names else insert names (position_or_len (λ other. comes_before name other) names) name) ≡ true
    by true is = is
    by false is = among-at (λ other. bytes_eq other name) name names (bytes_eq-own name)

among-later : (name other : List ℕ) (names : List (List ℕ)) → is_among name names ≡ true → is_among name (with_name other names) ≡ true
among-later name other names there = by (list_any (λ one. bytes_eq one other) names)
  where
    by : (b : Bool) → is_among name (if b then names else insert names (position_or_len (λ one. comes_before other one) names) other) ≡ true
    by true = there
    by false = among-more (λ one. bytes_eq one name) other names there

pub among-kept : (name : List ℕ) (more names : List (List ℕ)) → is_among name names ≡ true → is_among name (with_names more names) ≡ true
among-kept name [] names there = there
among-kept name (other ∷ more) names there = among-kept name more (with_name other names) (among-later name other names there)

pub among-given : (name : List ℕ) (more names : List (List ℕ)) → is_among name more ≡ true → is_among name (with_names more names) ≡ true
among-given name [] names there = absurd cc
among-given name (other ∷ more) names there = by (bytes_eq other name) refl there (among-given name more (with_name other names))
  where
    by : (b : Bool) → bytes_eq other name ≡ b → (b || is_among name more) ≡ true
        → (is_among name more ≡ true → is_among name (with_names more (with_name other names)) ≡ true)
        → is_among name (with_names more (with_name other names)) ≡ true
    by true is there later =
        among-kept name more (with_name other names)
        (subst (λ n. is_among n (with_name other names) ≡ true) (bytes_eq-is other name is) (among-own other names))
    by false is there later = later there

-- a database that is found has a name among those of its list
pub found-among : (name : List ℕ) (xs : List DatabaseValue) (found : DatabaseValue) → database_of name xs ≡ Some found → is_among name (names_of xs) ≡ true
found-among name [] found is = absurd cc
found-among name (x ∷ xs) found is = by (bytes_eq x.head.name name) is (found-among name xs found)
  where
    by : (b : Bool) → cond b (Some x) (database_of name xs) ≡ Some found
        → (database_of name xs ≡ Some found → is_among name (names_of xs) ≡ true) → (b || is_among name (names_of xs)) ≡ true
    by true is later = refl
    by false is later = later is

-- ---- names that rise

pub not-among : (name : List ℕ) (names : List (List ℕ)) → list_all (λ later. comes_before name later) names ≡ true → is_among name names ≡ false
not-among name [] behind = refl
not-among name (n ∷ names) behind =
    let both = and_parts (comes_before name n) (list_all (λ later. comes_before name later) names) behind in
    let apart : bytes_eq n name ≡ false = turned n name (comes_before-differs name n both.0) in
    rw (apart, not-among name names both.1) refl
  where
    turned : (one other : List ℕ) → bytes_eq other one ≡ false → bytes_eq one other ≡ false
    turned one other differ = by (bytes_eq one other) refl
      where
        by : (b : Bool) → bytes_eq one other ≡ b → b ≡ false
        by true same = absurd (let both = sym (bytes_eq-own other) ∙ ap (bytes_eq other) (sym (bytes_eq-is one other same)) ∙ differ in cc)
        by false same = refl
