-- The categories at the head of an app block (Palm File Format Specification; pilot-link's
-- pi-appinfo.h).
use Rattle.std.specs.Prelude.{ℕ, ◌^◌, ◌==◌, ◌||◌, ◌<◌, ◌≤◌, ◌≡◌, ◌≢◌, Bool, not, true, List, []}
use Rattle.std.specs.Prelude.{bit_and, length, map, slice_index_or}
use Rattle.palm_records.specs.Strings.{until_zero}
use Rattle.category_tables.specs.declared.table.Entry.{Entry}
use Rattle.category_tables.specs.declared.table.Table.{Table}

-- a category: its label without zero bytes, and its id
pub record CategoryValue : Type 0 where
  pub label : List ℕ
  pub id : ℕ

-- one that is not used
abbrev pub no_entry : CategoryValue
no_entry = record { label = []; id = 0 }

-- the 16 categories of a database by their numbers, which of them were renamed, and the last id
-- that
-- was given
pub record TableValue : Type 0 where
  pub flags : ℕ
  pub entries : List CategoryValue
  pub last : ℕ

abbrev pub entry_value : Entry → CategoryValue
entry_value entry = record { label = until_zero entry.label; id = entry.id }

-- what a table says
abbrev pub table_value : Table → TableValue
table_value table = record {
  flags = table.flags;
  entries = map entry_value table.entries;
  last = table.last;
}

abbrev pub entry_at : List CategoryValue → ℕ → CategoryValue
entry_at entries number = slice_index_or entries number no_entry

abbrev pub has_label : CategoryValue → Bool
has_label entry = not (length entry.label == 0)

-- number 0 is always used, another one where it has a label
abbrev pub is_used : List CategoryValue → ℕ → Bool
is_used entries number = (number == 0) || has_label (entry_at entries number)

-- the flag of a number is 2 to its power
abbrev pub is_renamed : TableValue → ℕ → Bool
is_renamed table number = not (bit_and table.flags (2 ^ number) == 0)

-- there are 16; the ids of those that are used, from number 1 on, are not 0, and differ
pub record IsTable (table : TableValue) : Type 0 where
  pub whole : length table.entries ≡ 16
  pub given : (number : ℕ) → 1 ≤ number → number < 16 → is_used table.entries number ≡ true
      → (entry_at table.entries number).id ≢ 0
  pub apart : (one other : ℕ) → 1 ≤ one → one < other → other < 16
      → is_used table.entries one ≡ true → is_used table.entries other ≡ true
      → (entry_at table.entries one).id ≢ (entry_at table.entries other).id

-- both are tables
pub record AreTables (handheld desktop : TableValue) : Type 0 where
  pub handheld_is : IsTable handheld
  pub desktop_is : IsTable desktop

-- a number from 1 to 15 that is used
pub record UsesNumber (table : TableValue) (number : ℕ) : Type 0 where
  pub some : 1 ≤ number
  pub few : number < 16
  pub used : is_used table.entries number ≡ true
