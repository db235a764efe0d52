-- The entries of a desktop's journal, and the text of a journal.
use Rattle.std.specs.Prelude.{◌≡◌, ◌<◌, ◌^◌, ℕ, Bool, true, false, bytes_eq, codes, List, [], ◌∷◌, ◌++◌, length, map, string_bytes}
use Rattle.std.specs.Int.{w16, w32, to_be_bytes}
use Rattle.std.specs.List.{flat_map, list_any}
use Rattle.std.specs.Str.{is_utf8}
use Rattle.folder_files.specs.FileNames.{is_kept_file}
use Rattle.desk_journal.specs.declared.entry.Entry.{Entry}

-- a file's name and its new bytes
pub record EntryValue : Type 0 where
  pub name : List ℕ
  pub bytes : List ℕ

-- an entry without where it lies in memory
abbrev pub entry_value : Entry → EntryValue
entry_value entry = record { name = string_bytes entry.name; bytes = entry.bytes.items }

-- entries without where they lie in memory
abbrev pub entry_values : List Entry → List EntryValue
entry_values entries = map entry_value entries

-- one of the entries bears this name
abbrev pub is_named : List EntryValue → List ℕ → Bool
is_named entries name = list_any (λ entry. bytes_eq entry.name name) entries

-- a name in UTF-8 of a file that a desktop keeps, and bytes, both so short that their lengths have
-- room
pub record IsEntry (entry : EntryValue) : Type 0 where
  pub short_name : length entry.name < 2 ^ 8
  pub utf8 : is_utf8 entry.name ≡ true
  pub kept : is_kept_file entry.name ≡ true
  pub short_bytes : length entry.bytes < 2 ^ 32

-- each is an entry, and no name stands among those before it
abbrev pub AreEntries : List EntryValue → List EntryValue → Type 0
AreEntries before [] = Unit {0}
AreEntries before (entry ∷ entries) =
    IsEntry entry × (is_named before entry.name ≡ false) × AreEntries (before ++ entry ∷ []) entries

-- entries with different names, so few that their number has room
abbrev pub IsJournal : List EntryValue → Type 0
IsJournal entries = (length entries < 2 ^ 16) × AreEntries [] entries

-- the length of the name, the name, the length of the bytes, the bytes
abbrev pub entry_text : EntryValue → List ℕ
entry_text entry =
    length entry.name ∷ entry.name ++ (to_be_bytes w32 (length entry.bytes) ++ entry.bytes)

-- the mark of a journal
abbrev pub mark : List ℕ
mark = codes "HSJ1"

-- the mark, the number of entries, and then each entry
abbrev pub journal_text : List EntryValue → List ℕ
journal_text entries = mark ++ (to_be_bytes w16 (length entries) ++ flat_map entry_text entries)
