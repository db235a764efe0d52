-- What callers can say of a folder in memory beyond what each folder tells.
use Rattle.std.specs.Prelude.{ℕ, List, Option}
use Rattle.hs_folders.specs.Changes.{count_of, told_before}
use Rattle.hs_folders.specs.FileMaps.{FileMap}
use Rattle.hs_folders.specs.declared.mem_folder.MemFolder.{MemFolder}

-- The numbers of the calls that are to fail, counted from 1 since the folder was made.
abbrev pub failing_calls : MemFolder → List ℕ
failing_calls folder = folder.calls.failing.items

-- How many calls of the trait were made.
abbrev pub calls_made : MemFolder → ℕ
calls_made folder = folder.calls.made

-- How many replacements and removals answered Ok.
abbrev pub changes_made : MemFolder → ℕ
changes_made folder = count_of folder.changes

-- What was told before each change, where moments are recorded: all moments but the present one.
abbrev pub past_moments : MemFolder → Option (List (Option FileMap))
past_moments folder = told_before folder.changes
