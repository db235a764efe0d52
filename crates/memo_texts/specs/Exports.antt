-- The memos that are exported of a database (Palm File Format Specification; pilot-link's memo.h).
use Rattle.std.specs.Prelude.{◌≡◌, ℕ, ◌&&◌, ◌||◌, Bool, true, not, List, [], codes, filter, map, Option, if◌then◌else◌}
use Rattle.std.specs.List.{flat_map}
use Rattle.std.specs.Str.{bytes_eq}
use Rattle.pdb_values.specs.declared.head.DbHead.{DbHead}
use Rattle.pdb_values.specs.declared.record.Record.{Record}
use Rattle.pdb_values.specs.Databases.{DatabaseValue}
use Rattle.pdb_values.specs.Heads.{holds_resources}
use Rattle.palm_records.specs.Strings.{until_zero}
use Rattle.palm_records.specs.declared.choice.Privacy.{Privacy}
use Rattle.palm_records.specs.Choices.{is_exported, shown_label}
use Rattle.memo_texts.specs.Memos.{IsMemo, MemoValue, memo_text}

-- a memo database: records of type `DATA` and creator `memo`, or `PMem` on later handhelds
abbrev pub holds_memos : DbHead → Bool
holds_memos head =
    not (holds_resources head.attributes) && bytes_eq head.kind.0 (codes "DATA")
    && (bytes_eq head.creator.0 (codes "memo") || bytes_eq head.creator.0 (codes "PMem"))

-- the memo of a record, with the labels of an app block
abbrev pub memo_of : Option (List ℕ) → Record → MemoValue
memo_of app item = record {
  id = item.id;
  secret = item.content.secret;
  label = shown_label app item.content.category;
  text = until_zero item.content.bytes;
}

-- where a record is exported, its memo has an id of 24 bits, and bytes
abbrev pub IsItem : Option (List ℕ) → Privacy → Record → Type 0
IsItem app wanted item = is_exported wanted item ≡ true → IsMemo (memo_of app item)

-- the memos that are exported, in the order of their records
abbrev pub exported_memos : Privacy → DatabaseValue → List MemoValue
exported_memos wanted database =
    map (memo_of database.app) (filter (is_exported wanted) database.records)

-- what a record adds to the text
abbrev pub item_text : Option (List ℕ) → Privacy → Record → List ℕ
item_text app wanted item = if is_exported wanted item then memo_text (memo_of app item) else []

-- what records add to it
abbrev pub items_text : Option (List ℕ) → Privacy → List Record → List ℕ
items_text app wanted items = flat_map (item_text app wanted) items
