-- The databases of a desktop stay in byte order of their names, and what a look-up finds once one is put among them.
use Rattle.std.proofs.Common.{◌≡◌, ◌⊎◌, inl, inr, ℕ, List, cond, refl, Some, Result, rules}
use Rattle.std.specs.Prelude.{OnOk, bytes_eq}
use Rattle.pdb_values.specs.Databases.{DatabaseValue}
use Rattle.pdb_values.specs.NamedDatabases.{NamesRise, database_of}
use Rattle.pdb_values.proofs.NamedLaws.{NamesRise-with_put, database_of-with_put}
use Rattle.desk_store.specs.declared.role.Role.{Role}
use Rattle.desk_store.specs.declared.role.Role.TheVariants.{Rows, Base, Archive}
use Rattle.desk_store.specs.Shelves.{AreOrdered, ShelvesValue, shelf_of, with_database}

pub ordered_with : (role : Role) (new : DatabaseValue) {shelves : ShelvesValue} → AreOrdered shelves → AreOrdered (with_database role new shelves)
ordered_with Rows new {shelves} is = record { rows = NamesRise-with_put new shelves.rows is.rows; bases = is.bases; archives = is.archives }
ordered_with Base new {shelves} is = record { rows = is.rows; bases = NamesRise-with_put new shelves.bases is.bases; archives = is.archives }
ordered_with Archive new {shelves} is = record { rows = is.rows; bases = is.bases; archives = NamesRise-with_put new shelves.archives is.archives }

pub ordered_then : {A E : Type 0} (answer : Result A E) (role : Role) (new : DatabaseValue) (shelves now : ShelvesValue)
    → OnOk answer (now ≡ with_database role new shelves) → AreOrdered shelves → OnOk answer (AreOrdered now)
ordered_then answer role new shelves now is ordered = search (rules, ordered_with)

pub rising : (shelves : ShelvesValue) → AreOrdered shelves → (role : Role) → NamesRise (shelf_of shelves role)
rising shelves is role = search (rules)

-- a database of its role, or one of another, is looked up
pub database_of-with : (role other : Role) (name : List ℕ) (new : DatabaseValue) (shelves : ShelvesValue)
    → (other ≡ role) × (database_of name (shelf_of (with_database role new shelves) other) ≡ cond (bytes_eq new.head.name name) (Some new)
    (database_of name (shelf_of shelves other)))
    ⊎ (other ≡ role → ⊥) × (shelf_of (with_database role new shelves) other ≡ shelf_of shelves other)
database_of-with Rows Rows name new shelves = inl (refl, database_of-with_put name new shelves.rows)
database_of-with Rows Base name new shelves = inr (λ e. cc e, refl)
database_of-with Rows Archive name new shelves = inr (λ e. cc e, refl)
database_of-with Base Rows name new shelves = inr (λ e. cc e, refl)
database_of-with Base Base name new shelves = inl (refl, database_of-with_put name new shelves.bases)
database_of-with Base Archive name new shelves = inr (λ e. cc e, refl)
database_of-with Archive Rows name new shelves = inr (λ e. cc e, refl)
database_of-with Archive Base name new shelves = inr (λ e. cc e, refl)
database_of-with Archive Archive name new shelves = inl (refl, database_of-with_put name new shelves.archives)
