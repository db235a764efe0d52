-- What is written of entries is read as these entries.
use Rattle.std.proofs.lemmas.Bool.Decides.{nat_tests}
use Rattle.std.proofs.lemmas.Grind.{common_steps}
use Rattle.std.proofs.Common.{◌≡◌, ℕ, ◌+◌, Bool, false, cond, List, [], ◌∷◌, ◌++◌, length, map, Some, None, refl, sym, arith}
use Rattle.std.specs.List.{AllByRecursion}
use Rattle.std.proofs.lemmas.Bool.{ltb-false}
use Rattle.std.proofs.lemmas.List.Sums.{prefix_len-le-length}
use Rattle.pdb_values.specs.declared.head.DbHead.{DbHead}
use Rattle.pdb_values.specs.Names.{IsName, name_fault}
use Rattle.pdb_values.specs.PalmDates.{wire_date}
use Rattle.pdb_values.proofs.DateLaws.{read_wire_of_wire_date}
use Rattle.dlp_args.specs.Cells.{HasNoZero}
use Rattle.dlp_args.specs.Fields.{FieldsFit}
use Rattle.dlp_args.proofs.CellLaws.{fields_written}
use Rattle.dlp_replies.specs.Checks.{first_bad}
use Rattle.dlp_replies.specs.EntryLists.{entry, row_of, entry_text, entries_text, IsEntry}
use Rattle.dlp_replies.specs.EntryReading.{entry_at, rows_in, row_checks, rows_checks, item_of}
use Rattle.dlp_replies.proofs.EntryTexts.{entry_again}
use Rattle.dlp_replies.proofs.ListLaws.{tests_pass}

-- a wire date has eight bytes
pub date_len : (seconds : ℕ) → length (wire_date seconds) ≡ 8
date_len seconds = grind arith

pub entry_text_len : (item : ℕ × DbHead) → length item.1.kind.0 ≡ 4 → length item.1.creator.0 ≡ 4 → length (entry_text item) ≡ 45 + length item.1.name
entry_text_len item kind creator = grind (arith, nat_tests, common_steps)

none_is : (b : Bool) (place : ℕ) → cond b (Some place) None ≡ None → b ≡ false
none_is b place e = grind arith

no_zero : (name : List ℕ) → IsName name → HasNoZero name
no_zero name is = grind (arith, nat_tests, common_steps, ltb-false, none_is, prefix_len-le-length)

entry_fits : (item : ℕ × DbHead) → IsEntry item → FieldsFit entry (row_of item)
entry_fits item is = grind (arith, nat_tests, common_steps, date_len, no_zero)

-- they are the cells of what is written
cells_written : (item : ℕ × DbHead) (rest : List ℕ) → IsEntry item → entry_at (entry_text item ++ rest) ≡ Some (row_of item, rest)
cells_written item rest is = entry_again (row_of item) (entry_text item) rest (fields_written entry (row_of item) refl (entry_fits item is))
    (sym (entry_text_len item is.kind is.creator))

pub rows_written : (items : List (ℕ × DbHead)) → AllByRecursion IsEntry items → rows_in (length items) (entries_text items) ≡ Some (map row_of items)
unfolding rows_in
rows_written [] all = refl
rows_written (item ∷ items) all = rw (cells_written item (entries_text items) all.0, rows_written items all.1) refl

-- ---- what the entries say

name_none : (name : List ℕ) → IsName name → name_fault name ≡ None
name_none name is = grind arith

row_passes : (at : ℕ) (item : ℕ × DbHead) → IsEntry item → first_bad (row_checks at (row_of item)) ≡ None
unfolding row_checks
row_passes at item is = grind (arith, nat_tests, common_steps, read_wire_of_wire_date, name_none)

pub rows_pass : (at : ℕ) (items : List (ℕ × DbHead)) → AllByRecursion IsEntry items → first_bad (rows_checks at (map row_of items)) ≡ None
rows_pass at [] all = refl
rows_pass at (item ∷ items) all = grind (arith, nat_tests, common_steps, rows_pass (at + (row_of item).0) items all.1, tests_pass, row_passes)

item_again : (item : ℕ × DbHead) → IsEntry item → item_of (row_of item) ≡ item
unfolding item_of
item_again item is = grind (arith, nat_tests, common_steps, read_wire_of_wire_date)

pub items_again : (items : List (ℕ × DbHead)) → AllByRecursion IsEntry items → map item_of (map row_of items) ≡ items
items_again [] all = refl
items_again (item ∷ items) all = (λ i. item_again item all.0 i ∷ items_again items all.1 i)
