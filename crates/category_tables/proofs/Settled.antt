-- Where each number of the desktop's stands in a table that its own was merged into.
use Rattle.std.proofs.Common.{◌≡◌, ◌⊎◌, ℕ, ◌<◌, ◌≤◌, true, false, List, None, Some, get_or, length}
use Rattle.category_tables.specs.Tables.{CategoryValue, IsTable, TableValue, entry_at, is_renamed, is_used}
use Rattle.category_tables.specs.Merges.{greatest, kept, of_id, of_label, unused}

-- the id and the label that the desktop gives to a number
abbrev pub id_at : TableValue → ℕ → ℕ
id_at table j = (entry_at table.entries j).id

abbrev pub label_at : TableValue → ℕ → List ℕ
label_at table j = (entry_at table.entries j).label

-- its id stands at this place, and where the desktop renamed it, its label
pub record IsThere (entries : List CategoryValue) (desktop : TableValue) (j p : ℕ) : Type 0 where
  pub id : of_id entries (id_at desktop j) ≡ Some p
  pub label : is_renamed desktop j ≡ true → (entry_at entries p).label ≡ label_at desktop j

-- its id stands nowhere, and its label first at this place
pub record IsLabelled (entries : List CategoryValue) (desktop : TableValue) (j p : ℕ) : Type 0 where
  pub id : of_id entries (id_at desktop j) ≡ None
  pub label : of_label entries (label_at desktop j) ≡ Some p

-- neither stands anywhere, and no number is free
pub record IsHomeless (entries : List CategoryValue) (desktop : TableValue) (j p : ℕ) : Type 0 where
  pub id : of_id entries (id_at desktop j) ≡ None
  pub label : of_label entries (label_at desktop j) ≡ None
  pub full : unused entries ≡ None
  pub place : p ≡ 0

abbrev pub IsSettled : List CategoryValue → TableValue → ℕ → ℕ → Type 0
IsSettled entries desktop j p = IsThere entries desktop j p ⊎ (IsLabelled entries desktop j p ⊎ IsHomeless entries desktop j p)

-- each used number stands where the places say, and each other one at 0
pub record AreSettled (entries : List CategoryValue) (desktop : TableValue) (places : List ℕ) : Type 0 where
  pub whole : length places ≡ 16
  pub first : get_or places 0 0 ≡ 0
  pub used : (j : ℕ) → 1 ≤ j → j < 16 → is_used desktop.entries j ≡ true → IsSettled entries desktop j (get_or places j 0)
  pub other : (j : ℕ) → 1 ≤ j → j < 16 → is_used desktop.entries j ≡ false → get_or places j 0 ≡ 0

-- a merged table: no flag is set, unused entries are empty, and no id is above the last
pub record IsMerged (t : TableValue) : Type 0 where
  pub table : IsTable t
  pub flags : t.flags ≡ 0
  pub clean : kept t.entries ≡ t.entries
  pub last : greatest t.last t.entries ≡ t.last
