-- Entries as they are read: their cells, and what these say (pilot-link, `dlp.c`: dlp_ReadDBList).
use Rattle.std.specs.Prelude.{◌≡◌, ℕ, zero, suc, ◌+◌, List, [], ◌∷◌, ◌++◌, length, Option, Some, None, is_none, ◌==◌, if◌then◌else◌}
use Rattle.std.specs.Int.{w8}
use Rattle.pdb_values.specs.declared.head.DbHead.{DbHead}
use Rattle.pdb_values.specs.Names.{name_fault}
use Rattle.pdb_values.specs.PalmDates.{read_wire}
use Rattle.dlp_args.specs.Fields.{Fields, fields_in, AreFields}
use Rattle.dlp_args.specs.CellReading.{◌>>=◌, number_at, some_at}
use Rattle.dlp_replies.specs.Checks.{Checks, is_date, date_or_zero}
use Rattle.dlp_replies.specs.EntryLists.{entry, Row}
use Rattle.dlp_replies.specs.Layouts.{db_list}

-- an entry at the front and the bytes behind it: as many bytes as its first one says, which are its
-- cells
unfoldable pub entry_at : List ℕ → Option (Row × List ℕ)
entry_at bytes = do
  size ← number_at w8 bytes
  whole ← some_at size.0 bytes
  row ← fields_in entry whole.0
  Some (row, whole.1)

-- so many entries, which are all of the bytes
unfoldable pub rows_in : ℕ → List ℕ → Option (List Row)
rows_in zero bytes = if length bytes == 0 then Some [] else None
rows_in (suc count) bytes = do
  first ← entry_at bytes
  others ← rows_in count first.1
  Some (first.0 ∷ others)

abbrev pub rows_or_none : Option (List Row) → List Row
rows_or_none None = []
rows_or_none (Some rows) = rows

-- the entries of a list
abbrev pub rows_of : Fields db_list → Option (List Row)
rows_of v = rows_in v.1.1.0 v.1.1.1.0

-- the bytes are texts of the entries, one after the other and up to the end; each has the size that
-- it says
abbrev pub AreRows : List Row → List ℕ → Type 0
AreRows [] bytes = bytes ≡ []
AreRows (row ∷ rows) bytes =
    (text rest : List ℕ) × (bytes ≡ text ++ rest) × AreFields entry row text
    × (row.0 ≡ length text) × AreRows rows rest

-- the name in the cells of an entry
abbrev pub row_name : Row → List ℕ
row_name row = row.1.1.1.1.1.1.1.1.1.1.1.0

-- the three dates and the name of an entry at a place
unfoldable pub row_checks : ℕ → Row → Checks
row_checks at row =
    (at + 18, is_date row.1.1.1.1.1.1.1.0) ∷ (at + 26, is_date row.1.1.1.1.1.1.1.1.0)
    ∷ (at + 34, is_date row.1.1.1.1.1.1.1.1.1.0) ∷ (
      at + 44,
      is_none (name_fault (row_name row)),
    ) ∷ []

-- the values of entries from a place on
abbrev pub rows_checks : ℕ → List Row → Checks
rows_checks at [] = []
rows_checks at (row ∷ rows) = row_checks at row ++ rows_checks (at + row.0) rows

-- index and head
unfoldable pub item_of : Row → ℕ × DbHead
item_of row = (
  row.1.1.1.1.1.1.1.1.1.1.0,
  record {
    name = row_name row;
    attributes = row.1.1.0;
    version = row.1.1.1.1.1.0;
    created = date_or_zero (read_wire row.1.1.1.1.1.1.1.0);
    modified = date_or_zero (read_wire row.1.1.1.1.1.1.1.1.0);
    backup = date_or_zero (read_wire row.1.1.1.1.1.1.1.1.1.0);
    modnum = row.1.1.1.1.1.1.0;
    seed = 0;
    kind = record { 0 = row.1.1.1.0 };
    creator = record { 0 = row.1.1.1.1.0 };
  },
)
