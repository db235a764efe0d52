-- What both sides hold of one database once its categories were brought together.
use Rattle.std.specs.Prelude.{◌≡◌, ◌<◌, ℕ, List, Option, None, Some, map, true}
use Rattle.std.specs.List.{AllByRecursion}
use Rattle.pdb_values.specs.Databases.{DatabaseValue}
use Rattle.pdb_values.specs.declared.record.Record.{Record}
use Rattle.category_tables.specs.Merges.{places_of}
use Rattle.category_tables.specs.Swaps.{swapped}
use Rattle.category_tables.specs.Tables.{TableValue, is_used}
use Rattle.category_mirror.specs.Blocks.{MergeValue, blocks_merge, side_block}
use Rattle.category_mirror.specs.Refiled.{refiled_record, refiled_rows}

abbrev pub block_by : Option (List ℕ) → Option MergeValue → Option (List ℕ)
block_by block None = block
block_by block (Some merge) = Some (side_block merge block)

-- the handheld's app block then
unfoldable pub filed_block : Option (List ℕ) → DatabaseValue → Option (List ℕ)
filed_block handheld rows = block_by handheld (blocks_merge handheld rows.app)

abbrev pub rows_by : Option MergeValue → DatabaseValue → DatabaseValue
rows_by None rows = rows
rows_by (Some merge) rows = refiled_rows merge rows

-- the desktop's rows then, by the handheld's app block
unfoldable pub filed_rows : Option (List ℕ) → DatabaseValue → DatabaseValue
filed_rows handheld rows = rows_by (blocks_merge handheld rows.app) rows

-- how both sides come together once they were filed
abbrev pub filed_again : Option (List ℕ) → DatabaseValue → Option MergeValue
filed_again handheld rows =
    blocks_merge (filed_block handheld rows) (filed_rows handheld rows).app

-- the category of each record is one of the 16
abbrev pub AreOfCategories : List Record → Type 0
AreOfCategories records = AllByRecursion (λ (item : Record). item.content.category < 16) records

-- and a number that the table uses
abbrev pub AreOfTable : TableValue → List Record → Type 0
AreOfTable table records =
    AllByRecursion
    (λ (item : Record). (item.content.category < 16)
    × (is_used table.entries item.content.category ≡ true)) records

-- a record whose category has the number of the other one of two that were exchanged
abbrev pub swapped_record : ℕ → ℕ → Record → Record
swapped_record i j item =
    record item { content = record item.content { category = swapped i j item.content.category } }

-- records in categories of the handheld get their numbers again, where the desktop exchanged these
-- two
abbrev pub UndoesSwap : TableValue → TableValue → ℕ → ℕ → Type 0
UndoesSwap handheld desktop i j =
    (records : List Record) → AreOfTable handheld records
    → map (refiled_record (places_of handheld desktop)) (map (swapped_record i j) records)
    ≡ records
