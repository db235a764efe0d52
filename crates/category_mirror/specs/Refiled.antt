-- Rows whose categories were brought together with the handheld's.
use Rattle.std.specs.Prelude.{ℕ, zero, suc, ◌+◌, if◌then◌else◌, Bool, not, ◌==◌, ◌||◌, List, filter, length, map, Option, None, Some, slice_index}
use Rattle.pdb_values.specs.Databases.{DatabaseValue}
use Rattle.pdb_values.specs.declared.record.Record.{Record}
use Rattle.palm_device.specs.Records.{with_records}
use Rattle.category_tables.specs.Tables.{TableValue, is_used}
use Rattle.category_mirror.specs.Blocks.{MergeValue, begins_with, block_bytes, side_block}

-- a record in the category that its number has in the merge; all else of it stays
abbrev pub refiled_record : List ℕ → Record → Record
refiled_record numbers item =
    record item {
      content = record item.content { category = slice_index numbers item.content.category };
    }

-- rows with the merged table at the head of their block, each record in its category
unfoldable pub refiled_rows : MergeValue → DatabaseValue → DatabaseValue
refiled_rows merge rows = record rows {
  app = Some (side_block merge rows.app);
  records = map (refiled_record merge.numbers) rows.records;
}

-- a base row in the category that its number has in the merge; a gone one stays as it is
abbrev pub refiled_base_row : List ℕ → Record → Record
refiled_base_row numbers item = if item.deleted then item else refiled_record numbers item

-- base rows that go along with their rows; all else of them stays
unfoldable pub refiled_base : MergeValue → DatabaseValue → DatabaseValue
refiled_base merge base = with_records (map (refiled_base_row merge.numbers) base.records) base

-- a record whose category has another number in the merge
abbrev pub is_moved : List ℕ → Record → Bool
is_moved numbers item = not (slice_index numbers item.content.category == item.content.category)

-- how many of these records have another category then
abbrev pub moved_count : List ℕ → List Record → ℕ
moved_count numbers records = length (filter (is_moved numbers) records)

-- rows that change: their block does, or the category of a record
abbrev pub is_refiled : MergeValue → DatabaseValue → Bool
is_refiled merge rows =
    not (begins_with merge.table (block_bytes rows.app))
    || not (moved_count merge.numbers rows.records == 0)

-- how many categories below this number are used
unfoldable pub used_below : TableValue → ℕ → ℕ
used_below table zero = 0
used_below table (suc number) =
    if is_used table.entries number then used_below table number + 1 else used_below table number

abbrev pub used_count : TableValue → ℕ
used_count table = used_below table 16
