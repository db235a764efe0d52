-- Databases by name, in byte order of their names (Palm File Format Specification, name in the
-- header).
use Rattle.std.specs.Prelude.{◌≡◌, ℕ, Bool, true, List, [], ◌∷◌, find, insert, position, remove, slice_set, Option, None, Some}
use Rattle.std.specs.Str.{bytes_eq}
use Rattle.std.specs.List.{list_all, position_or_len}
use Rattle.std.specs.Ordering.{is_lt, nat_cmp}
use Rattle.std.specs.Cmp.Lexicographic.{slice_cmp}
use Rattle.pdb_values.specs.Databases.{DatabaseValue}

-- ---- names

-- a name stands before another in byte order
abbrev pub comes_before : List ℕ → List ℕ → Bool
comes_before name other = is_lt (slice_cmp nat_cmp name other)

-- a database has this name
abbrev pub is_named : List ℕ → DatabaseValue → Bool
is_named name database = bytes_eq database.head.name name

-- each name stands before all later ones in byte order, so that no two are equal
abbrev pub NamesRise : List DatabaseValue → Type 0
NamesRise [] = Unit {0}
NamesRise (database ∷ databases) =
    (list_all (λ later. comes_before database.head.name later.head.name) databases ≡ true)
    × NamesRise databases

-- ---- a look-up

-- where the database of a name stands
abbrev pub place_of : List ℕ → List DatabaseValue → Option ℕ
place_of name databases = position (is_named name) databases

-- the database of a name
abbrev pub database_of : List ℕ → List DatabaseValue → Option DatabaseValue
database_of name databases = find (is_named name) databases

-- ---- a change

-- where a new database of this name goes: in front of the first greater name, or behind all
abbrev pub place_for : List ℕ → List DatabaseValue → ℕ
place_for name databases =
    position_or_len (λ database. comes_before name database.head.name) databases

-- a new database goes to its place in the order of names
abbrev pub with_new : DatabaseValue → List DatabaseValue → List DatabaseValue
with_new database databases = insert databases (place_for database.head.name databases) database

-- another database at a place, where there is one
abbrev pub set_at : Option ℕ → DatabaseValue → List DatabaseValue → List DatabaseValue
set_at None database databases = databases
set_at (Some place) database databases = slice_set databases place database

-- a database in place of the one of its name, where there is one; all others stay
abbrev pub replaced : DatabaseValue → List DatabaseValue → List DatabaseValue
replaced database databases = set_at (place_of database.head.name databases) database databases

-- another database at a place, or a new one at its own
abbrev pub put_at : Option ℕ → DatabaseValue → List DatabaseValue → List DatabaseValue
put_at None database databases = with_new database databases
put_at (Some place) database databases = slice_set databases place database

-- a database in place of the one of its name, or else at its own place
abbrev pub with_put : DatabaseValue → List DatabaseValue → List DatabaseValue
with_put database databases = put_at (place_of database.head.name databases) database databases

-- the database at a place is gone, where there is one
abbrev pub remove_at : Option ℕ → List DatabaseValue → List DatabaseValue
remove_at None databases = databases
remove_at (Some place) databases = remove databases place

-- the database of a name is gone, where there is one; all others stay
abbrev pub without_named : List ℕ → List DatabaseValue → List DatabaseValue
without_named name databases = remove_at (place_of name databases) databases
