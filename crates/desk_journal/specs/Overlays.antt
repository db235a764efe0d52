-- What a desktop's folder stands for: its files, and over them those of a journal that was not
-- finished.
use Rattle.std.specs.Prelude.{◌≡◌, ℕ, List, [], ◌∷◌, Option, None, Some, Result, Ok, Err, is_some, if◌then◌else◌}
use Rattle.std.specs.FinMap as finmap
use Rattle.std.specs.Option.{option_map}
use Rattle.hs_folders.specs.FileMaps.{FileMap}
use Rattle.folder_files.specs.FileNames.{journal_file}
use Rattle.desk_journal.specs.declared.bad_journal.BadJournal.{BadJournal}
use Rattle.desk_journal.specs.Entries.{EntryValue}
use Rattle.desk_journal.specs.Reading.{journal_in}

-- with each file of a change put over the others, in their order
abbrev pub put_all : List EntryValue → FileMap → FileMap
put_all [] held = held
put_all (entry ∷ entries) held = put_all entries (finmap.insert held entry.name entry.bytes)

-- the entries of bytes in the form of a journal
abbrev pub if_form : Result (List EntryValue) BadJournal → List EntryValue
if_form (Ok entries) = entries
if_form (Err bad) = []

-- the entries of a journal that is there and in its form
abbrev pub entries_of : Option (List ℕ) → List EntryValue
entries_of None = []
entries_of (Some bytes) = if_form (journal_in bytes)

-- where bytes are out of the form of a journal
abbrev pub if_bad : Result (List EntryValue) BadJournal → Option BadJournal
if_bad (Ok entries) = None
if_bad (Err bad) = Some bad

-- where a journal that is there is out of its form
abbrev pub bad_of : Option (List ℕ) → Option BadJournal
bad_of None = None
bad_of (Some bytes) = if_bad (journal_in bytes)

-- the folder has no journal
abbrev pub HasNoJournal : FileMap → Type 0
HasNoJournal held = finmap.get held journal_file ≡ None

-- the files without the journal, and over them those of a journal in its form
abbrev pub overlay : FileMap → FileMap
overlay held = put_all (entries_of (finmap.get held journal_file)) (finmap.remove held journal_file)

-- the files once the journal is finished: one out of its form stays
abbrev pub finished : FileMap → FileMap
finished held = if is_some (bad_of (finmap.get held journal_file)) then held else overlay held

-- what is told of a folder stands for what these files stand for
abbrev pub StandsAs : Option FileMap → Option FileMap → Type 0
StandsAs before told = option_map overlay told ≡ option_map overlay before

-- once its journal is finished, what is told of a folder is what these files are once theirs is; so
-- a journal that is there is in its form, or all is as it was
abbrev pub FinishesAs : Option FileMap → Option FileMap → Type 0
FinishesAs before told = option_map finished told ≡ option_map finished before
