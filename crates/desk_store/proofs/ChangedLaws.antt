-- The databases of a change, put among the others.
use Rattle.std.proofs.Common.{◌≡◌, ◌<◌, ℕ, Bool, true, false, cond, List, [], ◌∷◌, ◌++◌, map, length, Option, None, Some, refl, ap, subst, ◌∙◌, rules}
use Rattle.std.specs.Prelude.{IfSome, bytes_eq}
use Rattle.std.specs.List.{AllByRecursion, list_all}
use Rattle.std.specs.Option.{option_or}
use Rattle.pdb_values.specs.Databases.{DatabaseValue}
use Rattle.pdb_values.specs.Heads.{holds_resources}
use Rattle.pdb_files.specs.Files.{IsFileText, canonical}
use Rattle.std.proofs.lemmas.Bool.{and_parts}
use Rattle.desk_store.specs.declared.role.Role.{Role}
use Rattle.desk_store.specs.declared.role.Role.TheVariants.{Rows, Base, Archive}
use Rattle.desk_store.specs.Changes.{IsDbChange, IsDbWritten, IsOf, changed, changed_to, with_archive, with_change, with_changes}
use Rattle.desk_store.specs.Shelves.{AreOrdered, ShelvesValue, shelf_of}
use Rattle.desk_store.specs.declared.change.DbChange.{DbChange}
use Rattle.desk_store.proofs.OrderLaws.{ordered_with}
use Rattle.pdb_values.specs.NamedDatabases.{NamesRise, comes_before, database_of, with_put}
use Rattle.pdb_values.proofs.NamedLaws.{comes_before-differs_from, bytes_eq-is, database_of-with_put}

pub with_changes-append : (front : List DbChange) (change : DbChange) (shelves : ShelvesValue)
    → with_changes (front ++ change ∷ []) shelves ≡ with_changes front (with_change change shelves)
with_changes-append [] change shelves = refl
with_changes-append (first ∷ front) change shelves = ap (with_change first) (with_changes-append front change shelves)

-- ---- order

ordered_archive : (archive : Option DatabaseValue) {shelves : ShelvesValue} → AreOrdered shelves → AreOrdered (with_archive archive shelves)
ordered_archive None is = is
ordered_archive (Some archive) is = ordered_with Archive archive is

pub ordered_changes : (changes : List DbChange) (shelves : ShelvesValue) → AreOrdered shelves → AreOrdered (with_changes changes shelves)
ordered_changes [] shelves is = is
ordered_changes (change ∷ changes) shelves is = ordered_archive change.archive
    (ordered_with Base change.base (ordered_with Rows change.rows (ordered_changes changes shelves is)))

-- ---- each name once

abbrev pub rows_of : List DbChange → List DatabaseValue
rows_of changes = map (λ change. change.rows) changes

pub changed_none : (role : Role) (name : List ℕ) (changes : List DbChange) → list_all (λ later. comes_before name later.head.name) (rows_of changes) ≡ true
    → changed role name changes ≡ None
changed_none role name [] behind = refl
changed_none role name (change ∷ changes) behind =
    let both = and_parts (comes_before name change.rows.head.name) (list_all (λ later. comes_before name later.head.name) (rows_of changes)) behind in
    rw (comes_before-differs_from name change.rows.head.name both.0) (changed_none role name changes both.1)

-- ---- look-ups

archive_put : (role : Role) (name : List ℕ) (archive : Option DatabaseValue) (shelves : ShelvesValue) → (role ≡ Archive → ⊥)
    → shelf_of (with_archive archive shelves) role ≡ shelf_of shelves role
archive_put role name archive shelves other = search (rules)

-- what a look-up finds once a database changed
found_once : (role : Role) (name : List ℕ) {change : DbChange} (shelves : ShelvesValue) → IsDbChange change
    → database_of name (shelf_of (with_change change shelves) role) ≡ cond (bytes_eq change.rows.head.name name)
    (option_or (changed_to role change) (database_of name (shelf_of shelves role))) (database_of name (shelf_of shelves role))
found_once Rows name {change} shelves is = ap (database_of name) (archive_put Rows name change.archive _ (λ e. cc))
    ∙ database_of-with_put name change.rows shelves.rows
found_once Base name {change} shelves is = ap (database_of name) (archive_put Base name change.archive _ (λ e. cc))
    ∙ (database_of-with_put name change.base shelves.bases
    ∙ ap (λ (n : List ℕ). cond (bytes_eq n name) (Some change.base) (database_of name shelves.bases)) is.base.named)
found_once Archive name {change} shelves is = by change.archive is.archive
  where
    by : (archive : Option DatabaseValue) → IfSome archive (λ a. IsOf change.rows.head.name a × (0 < length a.records))
        → database_of name (shelf_of (with_archive archive
        (with_archive None (record { rows = with_put change.rows shelves.rows; bases = with_put change.base shelves.bases; archives = shelves.archives })))
        Archive)
        ≡ cond (bytes_eq change.rows.head.name name) (option_or archive (database_of name shelves.archives)) (database_of name shelves.archives)
    by None none = same (bytes_eq change.rows.head.name name)
      where
        same : (b : Bool) → database_of name shelves.archives ≡ cond b (database_of name shelves.archives) (database_of name shelves.archives)
        same true = refl
        same false = refl
    by (Some archive) given = database_of-with_put name archive shelves.archives
        ∙ ap (λ (n : List ℕ). cond (bytes_eq n name) (Some archive) (database_of name shelves.archives)) given.0.named

pub found_changed : (role : Role) (name : List ℕ) (changes : List DbChange) (shelves : ShelvesValue) → NamesRise (rows_of changes)
    → AllByRecursion IsDbChange changes
    → database_of name (shelf_of (with_changes changes shelves) role) ≡ option_or (changed role name changes) (database_of name (shelf_of shelves role))
found_changed role name [] shelves rise each = refl
found_changed role name (change ∷ changes) shelves rise each =
    found_once role name (with_changes changes shelves) each.0
    ∙ by (bytes_eq change.rows.head.name name) refl (database_of name (shelf_of (with_changes changes shelves) role))
    (found_changed role name changes shelves rise.1 each.1)
  where
    by : (here : Bool) → bytes_eq change.rows.head.name name ≡ here → (now : Option DatabaseValue)
        → now ≡ option_or (changed role name changes) (database_of name (shelf_of shelves role))
        → cond here (option_or (changed_to role change) now) now ≡ option_or (cond here (changed_to role change) (changed role name changes))
        (database_of name (shelf_of shelves role))
    by false is now later = later
    by true is now later =
        let none : changed role name changes ≡ None = changed_none role name changes
        (subst (λ (n : List ℕ). list_all (λ later. comes_before n later.head.name) (rows_of changes) ≡ true) (bytes_eq-is _ _ is) rise.0) in
        ap (option_or (changed_to role change)) (later ∙ ap (λ (o : Option DatabaseValue). option_or o (database_of name (shelf_of shelves role))) none)

-- ---- what changed

-- a database of a change bears the name, holds records and has its canonical text
pub record IsChanged (name : List ℕ) (database : DatabaseValue) : Type 0 where
  pub named : database.head.name ≡ name
  pub records : holds_resources database.head.attributes ≡ false
  pub text : IsFileText database (canonical database)

pub changed_to_is : (role : Role) {change : DbChange} {database : DatabaseValue} → IsDbChange change → IsDbWritten change
    → changed_to role change ≡ Some database → IsChanged change.rows.head.name database
changed_to_is role is written here = search (rules)

pub changed_is : (role : Role) (name : List ℕ) (changes : List DbChange) (database : DatabaseValue) → AllByRecursion IsDbChange changes
    → AllByRecursion IsDbWritten changes → changed role name changes ≡ Some database → IsChanged name database
changed_is role name [] database each written here = absurd cc
changed_is role name (change ∷ changes) database each written here = by (bytes_eq change.rows.head.name name) refl here
    (changed_is role name changes database each.1 written.1)
  where
    by : (this : Bool) → bytes_eq change.rows.head.name name ≡ this → cond this (changed_to role change) (changed role name changes) ≡ Some database
        → (changed role name changes ≡ Some database → IsChanged name database) → IsChanged name database
    by true is here later = subst (λ (n : List ℕ). IsChanged n database) (bytes_eq-is _ _ is) (changed_to_is role each.0 written.0 here)
    by false is here later = later here
