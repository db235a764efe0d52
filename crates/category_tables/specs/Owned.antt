-- Tables by what a reader looks at: the end of each label, and the place of each id.
use Rattle.std.specs.Prelude.{ℕ, ◌==◌, ◌&&◌, ◌<◌, ◌≤◌, ◌≡◌, Bool, false, not, true, Option, None, Some, length}
use Rattle.palm_records.specs.Strings.{until_zero}
use Rattle.category_tables.specs.declared.table.Entry.{Entry}
use Rattle.category_tables.specs.Tables.{TableValue, entry_at, is_used}
use Rattle.category_tables.specs.Merges.{of_id}

-- a label ends in its 16 bytes
abbrev pub HasEnd : Entry → Type 0
HasEnd entry = length (until_zero entry.label) < 16

-- the id is not 0, and this is the number that was found for it
abbrev pub is_found : ℕ → ℕ → Option ℕ → Bool
is_found id number None = false
is_found id number (Some place) = not (id == 0) && (place == number)

-- it is the first number from 1 on with its id, which is not 0
unfoldable pub is_owned : TableValue → ℕ → Bool
is_owned table number =
    is_found (entry_at table.entries number).id number
    (of_id table.entries (entry_at table.entries number).id)

abbrev pub AreOwned : TableValue → Type 0
AreOwned table = (number : ℕ) → 1 ≤ number → number < 16
    → is_used table.entries number ≡ true → is_owned table number ≡ true
