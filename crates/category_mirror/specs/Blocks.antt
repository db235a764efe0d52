-- The categories at the head of both sides' app blocks, and what becomes of the blocks once they
-- are brought together (Palm File Format Specification; pilot-link's pi-appinfo.h).
use Rattle.std.specs.Prelude.{ℕ, zero, suc, Bool, true, not, ◌==◌, ◌||◌, ◌&&◌, ◌<◌, List, [], ◌++◌}
use Rattle.std.specs.Prelude.{Option, None, Some, drop, length, nat_lt, slice_index, take, if◌then◌else◌}
use Rattle.std.specs.Option.{option_or}
use Rattle.std.specs.Str.{bytes_eq}
use Rattle.pdb_values.specs.Blocks.{block_length}
use Rattle.category_tables.specs.Merges.{merged_table, places_of}
use Rattle.category_tables.specs.Owned.{is_owned}
use Rattle.category_tables.specs.Tables.{TableValue, is_used}
use Rattle.category_tables.specs.Texts.{entry_in, table_in, table_text}

-- a test holds of each number below this one
unfoldable pub each_below : ℕ → (ℕ → Bool) → Bool
each_below zero test = true
each_below (suc number) test = each_below number test && test number

-- the label of a number ends in its 16 bytes
abbrev pub has_end : List ℕ → ℕ → Bool
has_end bytes number = nat_lt (length (entry_in bytes number).label) 16

-- a category from number 1 on that is used is the first one with its id, which is not 0
abbrev pub is_own : TableValue → ℕ → Bool
is_own table number = (number == 0) || (not (is_used table.entries number) || is_owned table number)

-- the head of an app block, its first 276 bytes, is a table
unfoldable pub holds_table : List ℕ → Bool
holds_table bytes =
    not (nat_lt (length bytes) 276)
    && (each_below 16 (has_end bytes) && each_below 16 (is_own (table_in bytes)))

abbrev pub head_table : List ℕ → Option TableValue
head_table head = if holds_table head then Some (table_in head) else None

-- the table of an app block, where its first 276 bytes are one
unfoldable pub block_table : Option (List ℕ) → Option TableValue
block_table None = None
block_table (Some bytes) = head_table (take 276 bytes)

-- the bytes of a block; none where it is not there
abbrev pub block_bytes : Option (List ℕ) → List ℕ
block_bytes None = []
block_bytes (Some bytes) = bytes

-- a block that the other side may get: it is no longer than a block can be
abbrev pub lent : Option (List ℕ) → Option (List ℕ)
lent block = if nat_lt 65500 (block_length block) then None else block

-- a side without a block counts as having the other's
abbrev pub handheld_block : Option (List ℕ) → Option (List ℕ) → Option (List ℕ)
handheld_block handheld desktop = option_or handheld (lent desktop)

abbrev pub desktop_block : Option (List ℕ) → Option (List ℕ) → Option (List ℕ)
desktop_block handheld desktop = option_or desktop handheld

-- the table that both sides have then, the number that each of the desktop's numbers has in it, and
-- what stands behind the table in the block of a side that had none
pub record MergeValue : Type 0 where
  pub table : TableValue
  pub numbers : List ℕ
  pub rest : List ℕ

-- each of the desktop's numbers has one of the 16
abbrev pub AreNumbers : List ℕ → Type 0
AreNumbers numbers = (number : ℕ) → number < 16 → slice_index numbers number < 16

abbrev pub tables_merge : List ℕ → Option TableValue → Option TableValue → Option MergeValue
tables_merge rest None desktop = None
tables_merge rest (Some handheld) None = None
tables_merge rest (Some handheld) (Some desktop) = Some (record {
  table = merged_table handheld desktop;
  numbers = places_of handheld desktop;
  rest = rest;
})

-- the merge of the blocks of both sides, where each begins with a table, or one does and the other
-- side has none
unfoldable pub blocks_merge : Option (List ℕ) → Option (List ℕ) → Option MergeValue
blocks_merge handheld desktop =
    tables_merge (drop 276 (block_bytes (desktop_block handheld desktop)))
    (block_table (handheld_block handheld desktop)) (block_table (desktop_block handheld desktop))

-- a block with this table at its head; the rest of it stays
abbrev pub merged_block : TableValue → List ℕ → List ℕ
merged_block table block = table_text table ++ drop 276 block

-- what stands behind the table in a side's block then: what stood there, or stands there on the
-- other side
abbrev pub rest_for : MergeValue → Option (List ℕ) → List ℕ
rest_for merge None = merge.rest
rest_for merge (Some block) = drop 276 block

-- a side's block then
abbrev pub side_block : MergeValue → Option (List ℕ) → List ℕ
side_block merge block = table_text merge.table ++ rest_for merge block

-- a block has the text of this table at its head
abbrev pub begins_with : TableValue → List ℕ → Bool
begins_with table block = bytes_eq (take 276 block) (table_text table)

-- the block that the handheld gets, where its own differs
abbrev pub written_block : Option (List ℕ) → Option MergeValue → Option (List ℕ)
written_block block None = None
written_block block (Some merge) =
    if begins_with merge.table (block_bytes block) then None else Some (side_block merge block)
