-- What contracts see of entries and ids that are lent from bytes.
use Rattle.std.specs.Prelude.{◌≡◌, ◌≤◌, ℕ, zero, suc, List, [], ◌∷◌, length, Option, Some, None, is_none, if◌then◌else◌}
use Rattle.std.specs.List.{AllByRecursion}
use Rattle.pdb_values.specs.declared.head.DbHead.{DbHead}
use Rattle.dlp_args.specs.CellReading.{◌>>=◌}
use Rattle.dlp_replies.specs.declared.entries.LentEntries.{LentEntries}
use Rattle.dlp_replies.specs.declared.entries.LentEntries.TheVariants as entries
use Rattle.dlp_replies.specs.declared.ids.LentIds.{LentIds}
use Rattle.dlp_replies.specs.declared.ids.LentIds.TheVariants as ids
use Rattle.dlp_replies.specs.Checks.{first_bad}
use Rattle.dlp_replies.specs.EntryReading.{entry_at, row_checks, item_of}
use Rattle.dlp_replies.specs.IdLists.{IsId, words}
use Rattle.dlp_replies.specs.Writables.{HasNoSeed}

-- an entry at the front whose values are some, and the bytes behind it
unfoldable pub item_at : List ℕ → Option ((ℕ × DbHead) × List ℕ)
item_at bytes =
    entry_at bytes >>= λ found. if is_none (first_bad (row_checks 0 found.0))
    then Some (item_of found.0, found.1) else None

-- an entry that was found and those behind it, or none
abbrev pub first_or_none : Option ((ℕ × DbHead) × List ℕ) → (List ℕ → List (ℕ × DbHead))
    → List (ℕ × DbHead)
first_or_none None others = []
first_or_none (Some found) others = found.0 ∷ others found.1

-- the entries at the front, at most so many
unfoldable pub items_in : ℕ → List ℕ → List (ℕ × DbHead)
items_in zero bytes = []
items_in (suc count) bytes = first_or_none (item_at bytes) (items_in count)

-- the entries of a slice, or those at the front of bytes
abbrev pub lent_items : LentEntries → List (ℕ × DbHead)
lent_items (entries.Items items) = items.now
lent_items (entries.Bytes count bytes) = items_in count bytes.now

-- at most 255 entries without seeds, or so many in bytes
abbrev pub AreEntries : LentEntries → Type 0
AreEntries (entries.Items items) = (length items.now ≤ 255) × AllByRecursion HasNoSeed items.now
AreEntries (entries.Bytes count bytes) = length (items_in count bytes.now) ≡ count

-- the ids of a slice, or those of each four bytes
abbrev pub lent_ids : LentIds → List ℕ
lent_ids (ids.Items items) = items.now
lent_ids (ids.Bytes bytes) = words bytes.now

-- at most 16,000 ids, or numbers of 24 bits in bytes
abbrev pub AreIds : LentIds → Type 0
AreIds (ids.Items items) = length items.now ≤ 16000
AreIds (ids.Bytes bytes) = AllByRecursion IsId (words bytes.now)
