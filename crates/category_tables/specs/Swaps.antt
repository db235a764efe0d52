-- A table with two numbers exchanged.
use Rattle.std.specs.Prelude.{ℕ, ◌==◌, ◌≡◌, ◌<◌, ◌≤◌, List, if◌then◌else◌}
use Rattle.category_tables.specs.Tables.{AreTables, CategoryValue, TableValue, entry_at}

-- the number that one has where these two are exchanged
abbrev pub swapped : ℕ → ℕ → ℕ → ℕ
swapped i j k = if k == i then j else (if k == j then i else k)

-- these are numbers from 1 to 15, and from 1 on the second list has the entries of the first with
-- both exchanged
pub record IsSwapOf (i j : ℕ) (entries others : List CategoryValue) : Type 0 where
  pub one : (1 ≤ i) × (i < 16)
  pub two : (1 ≤ j) × (j < 16)
  pub entry : (k : ℕ) → 1 ≤ k → k < 16 → entry_at others k ≡ entry_at entries (swapped i j k)

-- two tables of which the second has these numbers of the first exchanged
pub record AreSwapped (i j : ℕ) (handheld desktop : TableValue) : Type 0 where
  pub tables : AreTables handheld desktop
  pub swap : IsSwapOf i j handheld.entries desktop.entries
