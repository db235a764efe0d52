-- Reading a journal from left to right, up to the first entry that is out of its form.
use Rattle.std.specs.Prelude.{◌≡◌, ⊤, ◌==◌, ◌-◌, ◌&&◌, ◌||◌, ℕ, zero, suc, not, nat_eq, nat_lt, if◌then◌else◌, List, [], ◌∷◌, ◌++◌, length, take, drop, Option}
use Rattle.std.specs.Prelude.{None, Some, option_and_then, Result, Ok, Err}
use Rattle.std.specs.Global.{Vec}
use Rattle.std.specs.Int.{w16, w32, from_be_bytes}
use Rattle.std.specs.List.{starts_with}
use Rattle.std.specs.Option.{option_map}
use Rattle.std.specs.Str.{is_utf8}
use Rattle.folder_files.specs.FileNames.{is_kept_file}
use Rattle.desk_journal.specs.declared.bad_journal.BadJournal.{BadJournal}
use Rattle.desk_journal.specs.declared.entry.Entry.{Entry}
use Rattle.desk_journal.specs.declared.entry_reader.EntryFault.{EntryFault}
use Rattle.desk_journal.specs.declared.entry_reader.EntryFault.TheVariants.{Left, OutOfMemory}
use Rattle.desk_journal.specs.declared.fault.JournalFault.{JournalFault}
use Rattle.desk_journal.specs.declared.fault.JournalFault.TheVariants.{Bad, NoMemory}
use Rattle.desk_journal.specs.Entries.{EntryValue, entry_values, is_named, mark}

-- so many bytes at the front, and those behind them
unfoldable pub some_at : ℕ → List ℕ → Option (List ℕ × List ℕ)
some_at count bytes =
    if nat_lt (length bytes) count then None else Some (take count bytes, drop count bytes)

-- the bytes as a name in UTF-8, of a file that a desktop keeps
abbrev pub kept_in : List ℕ → Option (List ℕ)
kept_in bytes = if is_utf8 bytes && is_kept_file bytes then Some bytes else None

-- such a name behind its length
unfoldable pub name_at : List ℕ → Option (List ℕ × List ℕ)
name_at [] = None
name_at (count ∷ bytes) =
    option_and_then (λ parts. option_map (λ name. (name, parts.1)) (kept_in parts.0))
    (some_at count bytes)

-- bytes behind their length
unfoldable pub data_at : List ℕ → Option (List ℕ × List ℕ)
data_at bytes =
    option_and_then (λ parts. some_at (from_be_bytes w32 parts.0) parts.1) (some_at 4 bytes)

-- an entry whose name no earlier one bears
unfoldable pub entry_at : List EntryValue → List ℕ → Option (EntryValue × List ℕ)
entry_at before bytes =
    option_and_then
    (λ name. option_and_then
    (λ held. if is_named before name.0 then None
    else Some (record { name = name.0; bytes = held.0 }, held.1))
    (data_at name.1)) (name_at bytes)

-- a step that finds something and then the next one, or else how many bytes are left
abbrev pub or_left : {A B : Type 0} → List ℕ → (A → Result B ℕ) → Option A → Result B ℕ
or_left bytes next None = Err (length bytes)
or_left bytes next (Some found) = next found

-- so many entries behind those before, up to the end; else how many bytes are left from the first
-- bad one on
unfoldable pub entries_at : ℕ → List EntryValue → List ℕ → Result (List EntryValue) ℕ
entries_at zero before bytes = if length bytes == 0 then Ok before else Err (length bytes)
entries_at (suc count) before bytes =
    or_left bytes (λ found. entries_at count (before ++ found.0 ∷ []) found.1)
    (entry_at before bytes)

-- the place of what is left
abbrev pub placed : List ℕ → Result (List EntryValue) ℕ → Result (List EntryValue) BadJournal
placed bytes (Ok entries) = Ok entries
placed bytes (Err left) = Err (record { place = length bytes - left })

-- the entries of a journal, or where it is out of its form
unfoldable pub journal_in : List ℕ → Result (List EntryValue) BadJournal
journal_in bytes =
    if nat_lt (length bytes) 6 || not (starts_with nat_eq bytes mark)
    then Err (record { place = 0 })
    else placed bytes (entries_at (from_be_bytes w16 (take 2 (drop 4 bytes))) [] (drop 6 bytes))

-- the answer is what a reading gives, unless memory ran out
abbrev pub Reads : Result (Vec Entry) JournalFault → Result (List EntryValue) BadJournal → Type 0
Reads (Ok entries) said = said ≡ Ok (entry_values entries.items)
Reads (Err (Bad bad)) said = said ≡ Err bad
Reads (Err NoMemory) said = ⊤

-- the answer is what a reading of entries gives, unless memory ran out
abbrev pub ReadsEntries : Result (Vec Entry) EntryFault → Result (List EntryValue) ℕ → Type 0
ReadsEntries (Ok entries) said = said ≡ Ok (entry_values entries.items)
ReadsEntries (Err (Left left)) said = said ≡ Err left
ReadsEntries (Err OutOfMemory) said = ⊤
