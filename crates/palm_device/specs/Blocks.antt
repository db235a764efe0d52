-- What becomes of the app block and the sort block of a database (pilot-link, `pi-dlp.h`), and how
-- many entries it has.
use Rattle.std.specs.Prelude.{ℕ, List, [], ◌∷◌, length, Option, None, Some, if◌then◌else◌}
use Rattle.pdb_values.specs.Databases.{DatabaseValue}
use Rattle.pdb_values.specs.Heads.{holds_resources}
use Rattle.pdb_values.specs.declared.head.DbHead.{DbHead}

-- no bytes stand for no block
abbrev pub block_or_none : List ℕ → Option (List ℕ)
block_or_none [] = None
block_or_none (byte ∷ bytes) = Some (byte ∷ bytes)

-- a database with another app block, or without one
abbrev pub with_app : List ℕ → DatabaseValue → DatabaseValue
with_app bytes database = record database { app = block_or_none bytes }

-- a database with another sort block, or without one
abbrev pub with_sort : List ℕ → DatabaseValue → DatabaseValue
with_sort bytes database = record database { sort = block_or_none bytes }

-- a database of this head that has no block and no entry
abbrev pub empty_database : DbHead → DatabaseValue
empty_database head = record { head = head; app = None; sort = None; records = []; resources = [] }

-- how many records or resources a database has, deleted records included
abbrev pub entry_count : DatabaseValue → ℕ
entry_count database =
    if holds_resources database.head.attributes then length database.resources
    else length database.records
