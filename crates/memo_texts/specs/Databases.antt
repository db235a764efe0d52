-- The memo database of memos (Palm File Format Specification; pilot-link's memo.h and
-- pi-appinfo.h).
use Rattle.std.specs.Prelude.{ℕ, suc, ◌-◌, ◌*◌, ◌==◌, ◌||◌, false, List, [], ◌∷◌, ◌++◌, codes, length, map, nat_lt, position, Option, None, Some, Result, Ok, Err, if◌then◌else◌, replicate}
use Rattle.std.specs.List.{flat_map}
use Rattle.std.specs.Option.{is_some}
use Rattle.std.specs.Str.{bytes_eq}
use Rattle.pdb_values.specs.declared.head.DbHead.{DbHead}
use Rattle.pdb_values.specs.declared.record.Record.{Record}
use Rattle.pdb_values.specs.Databases.{DatabaseValue}
use Rattle.memo_texts.specs.Memos.{MemoValue}
use Rattle.memo_texts.specs.Readings.{memos_in}
use Rattle.memo_texts.specs.declared.fault.ImportFault.{ImportFault}
use Rattle.memo_texts.specs.declared.fault.ImportFault.TheVariants.{TooManyCategories, TooManyRecords}

-- the head of a memo database: it is to be backed up (attribute 0x0008)
abbrev pub memo_head : DbHead
memo_head = record {
  name = codes "MemoDB";
  attributes = 0x0008;
  version = 0;
  created = 0;
  modified = 0;
  backup = 0;
  modnum = 0;
  seed = 0;
  kind = record { 0 = codes "DATA" };
  creator = record { 0 = codes "memo" };
}

-- the place of a label
abbrev pub place_of : List (List ℕ) → List ℕ → Option ℕ
place_of labels label = position (λ known. bytes_eq known label) labels

-- labels with one more, where it is there and none of them
abbrev pub with_label : List (List ℕ) → List ℕ → List (List ℕ)
with_label labels label =
    if length label == 0 || is_some (place_of labels label) then labels else labels ++ label ∷ []

-- labels and those of memos, each once, in the order in which they appear
unfoldable pub labels_from : List (List ℕ) → List MemoValue → List (List ℕ)
labels_from labels [] = labels
labels_from labels (memo ∷ memos) = labels_from (with_label labels memo.label) memos

-- the labels of memos
abbrev pub labels_of : List MemoValue → List (List ℕ)
labels_of memos = labels_from [] memos

-- the category of the label at a place; category 0 is the one without a name
abbrev pub category_at : Option ℕ → ℕ
category_at None = 0
category_at (Some place) = suc place

-- the record of a memo: its text and a zero byte
abbrev pub record_of : List (List ℕ) → MemoValue → Record
record_of labels memo = record {
  id = memo.id;
  deleted = false;
  dirty = false;
  busy = false;
  content = record {
    category = category_at (place_of labels memo.label);
    secret = memo.secret;
    bytes = memo.text ++ 0 ∷ [];
  };
}

-- a label in 16 bytes
abbrev pub label_field : List ℕ → List ℕ
label_field label = label ++ replicate (16 - length label) 0

-- the sixteen labels, of which the last ones may be empty
abbrev pub label_fields : List (List ℕ) → List ℕ
label_fields labels = flat_map label_field labels ++ replicate (256 - 16 * length labels) 0

-- the ids of the sixteen categories, then the last id
abbrev pub category_ids : List ℕ
category_ids = 0 ∷ 1 ∷ 2 ∷ 3 ∷ 4 ∷ 5 ∷ 6 ∷ 7 ∷ 8 ∷ 9 ∷ 10 ∷ 11 ∷ 12 ∷ 13 ∷ 14 ∷ 15 ∷ 15 ∷ []

-- the app block: 2 bytes, the labels, the ids, and 7 bytes for the application
abbrev pub memo_block : List (List ℕ) → List ℕ
memo_block labels =
    (0 ∷ 0 ∷ []) ++ (label_fields (codes "Unfiled" ∷ labels) ++ (category_ids ++ replicate 7 0))

-- the database of memos with these labels
abbrev pub memo_database : List (List ℕ) → List MemoValue → DatabaseValue
memo_database labels memos = record {
  head = memo_head;
  app = Some (memo_block labels);
  sort = None;
  records = map (record_of labels) memos;
  resources = [];
}

-- the database of memos; a database has 15 categories with a name, and 65,535 records
abbrev pub database_of : List MemoValue → Result DatabaseValue ImportFault
database_of memos =
    if nat_lt 15 (length (labels_of memos)) then Err TooManyCategories
    else if nat_lt 65535 (length memos) then Err TooManyRecords
    else Ok (memo_database (labels_of memos) memos)

-- the database of the memos, or the line that is out of its form
abbrev pub database_or_fault : Result (List MemoValue) ImportFault
    → Result DatabaseValue ImportFault
database_or_fault (Ok memos) = database_of memos
database_or_fault (Err fault) = Err fault

-- the database of a text
abbrev pub import_in : List ℕ → Result DatabaseValue ImportFault
import_in text = database_or_fault (memos_in text)
