-- A table of categories as the first 276 bytes of an app block (Palm File Format Specification;
-- pilot-link's pi-appinfo.h).
use Rattle.std.specs.Prelude.{ℕ, ◌+◌, ◌-◌, ◌*◌, ◌/◌, ◌%◌, ◌<◌, ◌≤◌, ◌≡◌, List, [], ◌∷◌, ◌++◌, None}
use Rattle.std.specs.Prelude.{drop, length, map, replicate, slice_index, take}
use Rattle.std.specs.List.{All, flat_map, range_with_len}
use Rattle.palm_records.specs.Strings.{first_zero, until_zero}
use Rattle.category_tables.specs.Tables.{CategoryValue, IsTable, TableValue}

-- the label of a number
abbrev pub label_bytes : List ℕ → ℕ → List ℕ
label_bytes bytes number = take 16 (drop (2 + 16 * number) bytes)

abbrev pub entry_in : List ℕ → ℕ → CategoryValue
entry_in bytes number = record {
  label = until_zero (label_bytes bytes number);
  id = slice_index bytes (258 + number);
}

-- flags, 16 labels of 16 bytes, 16 ids, the last id; byte 275 is not looked at
unfoldable pub table_in : List ℕ → TableValue
table_in bytes = record {
  flags = slice_index bytes 0 * 256 + slice_index bytes 1;
  entries = map (entry_in bytes) (range_with_len 0 16);
  last = slice_index bytes 274;
}

-- an app block begins with a table: it is long enough, each label ends in its 16 bytes, and the
-- table
-- is one
pub record HoldsTable (bytes : List ℕ) : Type 0 where
  pub long : 276 ≤ length bytes
  pub ended : (number : ℕ) → number < 16 → length (entry_in bytes number).label < 16
  pub table : IsTable (table_in bytes)

-- behind the end of each label stand zero bytes alone
abbrev pub AreFilled : List ℕ → Type 0
AreFilled bytes = (number : ℕ) → number < 16 → All (λ byte. byte ≡ 0)
    (drop (length (entry_in bytes number).label) (label_bytes bytes number))

-- a label, filled with zero bytes
abbrev pub label_text : CategoryValue → List ℕ
label_text entry = entry.label ++ replicate (16 - length entry.label) 0

abbrev pub id_of : CategoryValue → ℕ
id_of entry = entry.id

-- the 276 bytes of a table
unfoldable pub table_text : TableValue → List ℕ
table_text table =
    (table.flags / 256) ∷ (table.flags % 256)
    ∷ (flat_map label_text table.entries ++ (map id_of table.entries ++ table.last ∷ 0 ∷ []))

-- a label has at most 15 bytes, and no zero byte
pub record IsLabel (entry : CategoryValue) : Type 0 where
  pub short : length entry.label < 16
  pub whole : first_zero entry.label ≡ None

-- a table that has a text: one whose labels and flags have room in it
pub record HasText (table : TableValue) : Type 0 where
  pub table_is : IsTable table
  pub labels : All IsLabel table.entries
  pub flags : table.flags < 65536
