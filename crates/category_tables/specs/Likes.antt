-- A database in the categories of another file's app block: each of its labels has the number that
-- it has there, and one that is new there the least number that is free.
use Rattle.std.specs.Prelude.{◌≡◌, ⊤, ℕ, zero, suc, ◌+◌, ◌<◌, ◌≤◌, ◌==◌, ◌&&◌, ◌||◌, Bool, not, true, List, [], ◌∷◌, ◌++◌, Option, None, Some, drop, is_some, map, take, slice_index, if◌then◌else◌}
use Rattle.std.specs.List.{list_any}
use Rattle.std.specs.Str.{bytes_eq}
use Rattle.pdb_values.specs.Databases.{DatabaseValue}
use Rattle.pdb_values.specs.declared.record.Record.{Record}
use Rattle.category_tables.specs.Merges.{MergingValue, begun, of_label, rounds, with_entry}
use Rattle.category_tables.specs.Tables.{CategoryValue, TableValue, entry_at, has_label, is_used}
use Rattle.category_tables.specs.Texts.{HoldsTable, label_bytes, label_text, table_in}
use Rattle.category_tables.specs.declared.like_fault.LikeFault.{LikeFault}
use Rattle.category_tables.specs.declared.like_fault.LikeFault.TheVariants.{BadTable, NoMemory, TooMany}

-- ---- the id of a new label

-- an entry has this id
abbrev pub has_id : List CategoryValue → ℕ → Bool
has_id entries id = list_any (λ (entry : CategoryValue). entry.id == id) entries

-- the first id from this one on that no entry has, among so many and the one behind them
unfoldable pub id_from : ℕ → ℕ → List CategoryValue → ℕ
id_from zero id entries = id
id_from (suc tries) id entries =
    if has_id entries id then id_from tries (id + 1) entries else id

-- the first id that no entry has, of those that a desktop gives: a handheld gives the lower ones
abbrev pub new_id : List CategoryValue → ℕ
new_id entries = id_from 16 128 entries

-- ---- the number of each label

-- a number's label goes to the least entry that has it, or else fills an unused one
unfoldable pub by_like : TableValue → ℕ → MergingValue → MergingValue
by_like made number merging =
    if is_used made.entries number
    then with_entry
    (record { label = (entry_at made.entries number).label; id = new_id merging.entries })
    number merging
    else merging

-- the entries of the other table with those of these labels, and where each number goes
unfoldable pub liking : TableValue → TableValue → MergingValue
liking other made = rounds (by_like made) 15 (begun other)

-- each place is a number
abbrev pub AreSmall : List ℕ → Type 0
AreSmall places = (number : ℕ) → number < 16 → slice_index places number < 16

-- a number's label, where it has one, stands where the number goes
abbrev pub stands : TableValue → MergingValue → ℕ → Bool
stands made merging number =
    not (is_used made.entries number)
    || bytes_eq (entry_at merging.entries (slice_index merging.places number)).label
    (entry_at made.entries number).label

-- each label found a number
abbrev pub AllStand : TableValue → MergingValue → Type 0
AllStand made merging =
    (number : ℕ) → 1 ≤ number → number < 16 → stands made merging number ≡ true

-- the other table has each label of these numbers
abbrev pub AreKnown : TableValue → TableValue → Type 0
AreKnown other made =
    (number : ℕ) → 1 ≤ number → number < 16 → is_used made.entries number ≡ true
    → is_some (of_label other.entries (entry_at made.entries number).label) ≡ true

-- ---- the app block

-- an entry that the other table doesn't use, and now has a label
abbrev pub is_filled : List CategoryValue → List CategoryValue → ℕ → Bool
is_filled other entries number =
    not (is_used other number) && has_label (entry_at entries number)

-- the label of a number: a new one, or the bytes that stand in the block
abbrev pub label_like : List CategoryValue → List CategoryValue → List ℕ → ℕ → List ℕ
label_like other entries block number =
    if is_filled other entries number then label_text (entry_at entries number)
    else label_bytes block number

-- the id of a number, likewise
abbrev pub id_like : List CategoryValue → List CategoryValue → List ℕ → ℕ → ℕ
id_like other entries block number =
    if is_filled other entries number then (entry_at entries number).id
    else slice_index block (258 + number)

-- the labels of the numbers below this one, from 0 on
unfoldable pub labels_like : List CategoryValue → List CategoryValue → List ℕ → ℕ → List ℕ
labels_like other entries block zero = []
labels_like other entries block (suc number) =
    labels_like other entries block number ++ label_like other entries block number

-- their ids
unfoldable pub ids_like : List CategoryValue → List CategoryValue → List ℕ → ℕ → List ℕ
ids_like other entries block zero = []
ids_like other entries block (suc number) =
    ids_like other entries block number ++ id_like other entries block number ∷ []

-- the block of the other table with these entries: all that isn't new stays, byte for byte
unfoldable pub block_like : List CategoryValue → List CategoryValue → List ℕ → List ℕ
block_like other entries block =
    take 2 block
    ++ (labels_like other entries block 16 ++ (ids_like other entries block 16 ++ drop 274 block))

-- ---- the database

-- a record in the category to which its number goes; all else of it stays
abbrev pub moved : List ℕ → Record → Record
moved places item =
    record item {
      content = record item.content { category = slice_index places item.content.category };
    }

-- the head and the records, with the other file's block
unfoldable pub database_like : DatabaseValue → List CategoryValue → List ℕ → MergingValue
    → DatabaseValue
database_like database other block merging = record {
  head = database.head;
  app = Some (block_like other merging.entries block);
  sort = None;
  records = map (moved merging.places) database.records;
  resources = [];
}

-- a block begins with this table
abbrev pub IsTableOf : Option (List ℕ) → TableValue → Type 0
IsTableOf None table = ⊥
IsTableOf (Some block) table = HoldsTable block × (table ≡ table_in block)

-- the tables of a database and of the other file's block
pub record AreTheirs (database : DatabaseValue) (block : List ℕ) (made other : TableValue)
    : Type 0 where
  pub made_is : IsTableOf database.app made
  pub other_is : IsTableOf (Some block) other

-- the database in the categories of the block
pub record IsLike (database : DatabaseValue) (block : List ℕ) (like : DatabaseValue) : Type 0 where
  pub made : TableValue
  pub other : TableValue
  pub theirs : AreTheirs database block made other
  pub stand : AllStand made (liking other made)
  pub is : like ≡ database_like database other.entries block (liking other made)

-- a label of the database finds no number
pub record HasTooMany (database : DatabaseValue) (block : List ℕ) : Type 0 where
  pub made : TableValue
  pub other : TableValue
  pub theirs : AreTheirs database block made other
  pub lost : ¬ AllStand made (liking other made)

-- why there is none
abbrev pub RefusesLike : DatabaseValue → List ℕ → LikeFault → Type 0
RefusesLike database block BadTable =
    (made other : TableValue) → AreTheirs database block made other → ⊥
RefusesLike database block TooMany = HasTooMany database block
RefusesLike database block NoMemory = ⊤
