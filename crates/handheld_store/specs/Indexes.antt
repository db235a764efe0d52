-- The ids of a database's records, kept beside it so that a record is found by its id without a
-- walk.
use Rattle.std.specs.Prelude.{◌≡◌, ◌++◌, ◌∷◌, [], ℕ, Bool, false, List, IfSome, IsSomeAnd}
use Rattle.std.specs.List.{AllByRecursion}
use Rattle.std.specs.Str.{bytes_eq}
use Rattle.pdb_values.specs.Databases.{DatabaseValue}
use Rattle.pdb_values.specs.NamedDatabases.{database_of}
use Rattle.palm_device.specs.Soundness.{ids_of}
use Rattle.handheld_store.specs.declared.index.Index.{Index}

-- an index is that of a database of this name
abbrev pub is_of : List ℕ → Index → Bool
is_of name index = bytes_eq name index.name

-- where a database has the name of an index, the index has the ids of its records in their order
abbrev pub IsIndexIn : List DatabaseValue → Index → Type 0
IsIndexIn databases index =
    IfSome (database_of index.name databases) (λ database. index.ids.keys ≡ ids_of database.records)

-- each of the indexes does
abbrev pub AreIndexes : List DatabaseValue → List Index → Type 0
AreIndexes databases indexes = AllByRecursion (IsIndexIn databases) indexes

-- where a database has the name of an index, it has one id more, which is this
abbrev pub HasIdMore : List DatabaseValue → Index → ℕ → Type 0
HasIdMore databases index id =
    IfSome (database_of index.name databases)
    (λ database. ids_of database.records ≡ index.ids.keys ++ id ∷ [])

-- the databases of all other names are as before
abbrev pub AreOthers : List ℕ → List DatabaseValue → List DatabaseValue → Type 0
AreOthers name old new =
    (other : List ℕ) → bytes_eq name other ≡ false → database_of other new ≡ database_of other old

-- the database of a name has one record more, of this id and behind the others, and the databases
-- of all other names are as before
pub record HasOneMore (name : List ℕ) (id : ℕ) (old new : List DatabaseValue) : Type 0 where
  pub others : AreOthers name old new
  pub more : IsSomeAnd (database_of name old) (λ was. IfSome (database_of name new)
      (λ database. ids_of database.records ≡ ids_of was.records ++ id ∷ []))
