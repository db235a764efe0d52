-- The rows that are exported: each has as many columns as the head row.
use Rattle.std.proofs.Common.{◌≡◌, ◌∙◌, ◌≤◌, arith, length, refl, sym, ℕ, List, [], ◌∷◌, length-append, Option}
use Rattle.std.specs.Prelude.{All, Result, Ok, Err, filter, map, slice_index_or}
use Rattle.std.proofs.lemmas.List.Elements.{All-cons, All-map}
use Rattle.pdb_values.specs.declared.record.Record.{Record}
use Rattle.pdb_values.specs.Databases.{DatabaseValue}
use Rattle.palm_records.specs.Addresses.{AddressValue, address_in}
use Rattle.palm_records.specs.Tasks.{TaskValue, task_in}
use Rattle.palm_records.specs.declared.choice.Privacy.{Privacy}
use Rattle.palm_records.specs.Choices.{is_exported}
use Rattle.card_export.specs.Exports.{text_of}
use Rattle.table_export.specs.Addresses.{address_columns, columns_before}
use Rattle.table_export.specs.Exports.{address_or, exported_rows, head_row, item_row, task_or}
use Rattle.table_export.specs.Tables.{IsRow}
use Rattle.table_export.specs.declared.kind.Kind.{Kind}
use Rattle.table_export.specs.declared.kind.Kind.TheVariants.{Addresses, Tasks}

-- how many columns a table of a kind has
abbrev width : Kind → ℕ
width Addresses = 28
width Tasks = 9

length-address_columns : (address : AddressValue) → length (address_columns address) ≡ 24
unfolding columns_before
length-address_columns address = refl

length-address_or : (bytes : List ℕ) (read : Result AddressValue ℕ) → length (address_or bytes read) ≡ 25
length-address_or bytes (Ok address) =
    let last : List (List ℕ) = [] ∷ [] in
    omega (arith, length-append (address_columns address) last, length-address_columns address)
length-address_or bytes (Err place) = refl

length-task_or : (bytes : List ℕ) (read : Result TaskValue ℕ) → length (task_or bytes read) ≡ 6
length-task_or bytes (Ok task) = refl
length-task_or bytes (Err place) = refl

length-item_row : (kind : Kind) (app : Option (List ℕ)) (item : Record) → length (item_row kind app item) ≡ width kind
length-item_row Addresses app item = omega (arith, length-address_or item.content.bytes (address_in item.content.bytes))
length-item_row Tasks app item = omega (arith, length-task_or item.content.bytes (task_in item.content.bytes))

length-head_row : (kind : Kind) (block : List ℕ) → length (head_row kind block) ≡ width kind
unfolding head_row
length-head_row Addresses block = refl
length-head_row Tasks block = refl

pub exported_rows-wide : (kind : Kind) (wanted : Privacy) (database : DatabaseValue)
    → All (λ row. length row ≡ length (head_row kind (text_of database.app))) (exported_rows kind wanted database)
exported_rows-wide kind wanted database =
    let head = head_row kind (text_of database.app) in
    let items = filter (is_exported wanted) database.records in
    let row = item_row kind database.app in
    All-cons (λ (fields : List (List ℕ)). length fields ≡ length head) head (map row items) refl
    (All-map (λ (fields : List (List ℕ)). length fields ≡ length head) row items
    (λ k d inside. length-item_row kind database.app (slice_index_or items k d) ∙ sym (length-head_row kind (text_of database.app))))

wide : (kind : Kind) → 2 ≤ width kind
wide Addresses = omega arith
wide Tasks = omega arith

pub IsRow-exported_rows : (kind : Kind) (wanted : Privacy) (database : DatabaseValue) → All IsRow (exported_rows kind wanted database)
IsRow-exported_rows kind wanted database k d inside =
    omega (arith, exported_rows-wide kind wanted database k d inside, length-head_row kind (text_of database.app), wide kind)
