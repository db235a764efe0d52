-- What a folder holds after each step of a commit, and how far a call went through such steps.
use Rattle.std.specs.Prelude.{◌≡◌, Bool, false, not, bytes_eq, ℕ, List, [], ◌∷◌, ◌++◌, filter, Option, None, Some}
use Rattle.std.specs.FinMap as finmap
use Rattle.std.specs.Option.{option_map}
use Rattle.hs_folders.specs.FileMaps.{FileMap}
use Rattle.hs_folders.specs.Moments.{Moments}
use Rattle.folder_files.specs.FileNames.{journal_file}
use Rattle.desk_journal.specs.Entries.{EntryValue, journal_text}
use Rattle.desk_journal.specs.Overlays.{put_all}

-- ---- which files a commit writes

-- a file that is there has these bytes
abbrev pub has_bytes : Option (List ℕ) → List ℕ → Bool
has_bytes None bytes = false
has_bytes (Some old) bytes = bytes_eq old bytes

-- the file of an entry is not there, or has other bytes
abbrev pub is_changed : FileMap → EntryValue → Bool
is_changed held entry = not (has_bytes (finmap.get held entry.name) entry.bytes)

-- the entries that change a file
abbrev pub changed_in : FileMap → List EntryValue → List EntryValue
changed_in held entries = filter (is_changed held) entries

-- ---- its steps

-- the file of an entry is replaced
abbrev pub with_entry : EntryValue → Option FileMap → Option FileMap
with_entry entry told = option_map (λ held. finmap.insert held entry.name entry.bytes) told

-- the journal of the entries is written
abbrev pub with_journal : List EntryValue → Option FileMap → Option FileMap
with_journal entries told =
    option_map (λ held. finmap.insert held journal_file (journal_text entries)) told

-- the journal is removed
abbrev pub without_journal : Option FileMap → Option FileMap
without_journal told = option_map (λ held. finmap.remove held journal_file) told

-- each file is replaced, in the order of the entries
abbrev pub replacements : List EntryValue → Option FileMap → List (Option FileMap)
replacements [] told = []
replacements (entry ∷ entries) told =
    with_entry entry told ∷ replacements entries (with_entry entry told)

-- each file is replaced, and then the journal is removed
abbrev pub journal_steps : List EntryValue → Option FileMap → List (Option FileMap)
journal_steps entries told =
    replacements entries told ++ without_journal (option_map (put_all entries) told) ∷ []

-- the journal is written, and then carried out
abbrev pub by_journal : List EntryValue → Option FileMap → List (Option FileMap)
by_journal entries told =
    with_journal entries told ∷ journal_steps entries (with_journal entries told)

-- the steps of a commit that changes these files: none where there is no file; one file is
-- replaced; more than one by way of a journal
abbrev pub commit_steps : List EntryValue → Option FileMap → List (Option FileMap)
commit_steps [] told = []
commit_steps (entry ∷ []) told = with_entry entry told ∷ []
commit_steps entries told = by_journal entries told

-- the steps of a commit of these entries over these files: those of the entries that change a file
abbrev pub steps_over : FileMap → List EntryValue → List (Option FileMap)
steps_over held entries = commit_steps (changed_in held entries) (Some held)

-- ---- how far a call went

-- what is told after these steps
abbrev pub last_told : Option FileMap → List (Option FileMap) → Option FileMap
last_told told [] = told
last_told told (next ∷ steps) = last_told next steps

-- a call went through the first of these steps, each of them a moment, and stopped there
pub record GoesThrough (steps : List (Option FileMap)) (before after : Option FileMap)
    (old new : Moments) : Type 0 where
  pub passed : List (Option FileMap)
  pub left : List (Option FileMap)
  pub are : steps ≡ passed ++ left
  pub moments : new ≡ option_map (λ moments. moments ++ passed) old
  pub stops : after ≡ last_told before passed

-- a call went through all of these steps, and no other moment passed
abbrev pub GoesThroughAll : List (Option FileMap) → Moments → Moments → Type 0
GoesThroughAll steps old new = new ≡ option_map (λ moments. moments ++ steps) old
