-- Why bytes are no database file: the first rule that they break.
use Rattle.std.specs.Prelude.{◌≡◌, ℕ, zero, suc, ◌==◌, Bool, nat_lt, List, ◌++◌, length, drop, Option, Some, None, Result, Ok, Err, if◌then◌else◌}
use Rattle.std.specs.Option.{option_map, option_or}
use Rattle.pdb_values.specs.Heads.{holds_resources}
use Rattle.pdb_files.specs.declared.fault.FileFault.{FileFault}
use Rattle.pdb_files.specs.declared.fault.FileFault.TheVariants.{Short, BadName, Chained, BadOffset, TooLarge, NoMemory}
use Rattle.pdb_files.specs.Fields.{number_at}
use Rattle.pdb_files.specs.Headers.{name_length, name_end, attributes_place, app_place, sort_place, next_list_place, count_place, header_length}
use Rattle.pdb_files.specs.Entries.{begin_place, begins_in, entry_length}
use Rattle.pdb_files.specs.Blocks.{begin_list, first_misplaced, first_oversized}
use Rattle.pdb_files.specs.Files.{entries_end}

-- there are fewer bytes than so many
abbrev pub too_short : ℕ → List ℕ → Option FileFault
too_short wanted bytes = if nat_lt (length bytes) wanted then Some (Short (length bytes)) else None

-- a name that ends at this place is empty, or has no zero behind it
abbrev pub bad_name : Option ℕ → Option FileFault
bad_name None = Some (BadName name_length)
bad_name (Some zero) = Some (BadName 0)
bad_name (Some (suc place)) = None

-- a second list of entries follows
abbrev pub chained : List ℕ → Option FileFault
chained bytes = if number_at 4 next_list_place bytes == 0 then None else Some Chained

-- the first rule on headers that bytes break
abbrev pub header_fault : List ℕ → Option FileFault
header_fault bytes =
    option_or (too_short header_length bytes)
    (option_or (bad_name (name_end bytes)) (chained bytes))

-- the entries are of resources, as the attributes say
abbrev pub of_resources : List ℕ → Bool
of_resources bytes = holds_resources (number_at 2 attributes_place bytes)

-- how many entries the header counts
abbrev pub count_in : List ℕ → ℕ
count_in bytes = number_at 2 count_place bytes

-- where the entries end
abbrev pub first_place : List ℕ → ℕ
first_place bytes = entries_end (of_resources bytes) (count_in bytes)

-- where each block begins: the app block and the sort block as the header says, the data of each
-- entry as it says
abbrev pub block_begins : List ℕ → List ℕ
block_begins bytes =
    begin_list (number_at 4 app_place bytes)
    ++ (begin_list (number_at 4 sort_place bytes)
    ++ begins_in (entry_length (of_resources bytes)) (begin_place (of_resources bytes))
    (count_in bytes)
    (drop header_length bytes))

-- the first rule on blocks that these break: one is out of its place, or else one is too large
abbrev pub blocks_fault : ℕ → ℕ → List ℕ → Option FileFault
blocks_fault first end begins =
    option_or (option_map BadOffset (first_misplaced first end begins))
    (option_map TooLarge (first_oversized end begins))

-- the first rule that bytes break
unfoldable pub file_fault : List ℕ → Option FileFault
file_fault bytes =
    option_or (header_fault bytes)
    (option_or (too_short (first_place bytes) bytes)
    (blocks_fault (first_place bytes) (length bytes) (block_begins bytes)))

-- the answer is this fault, or without a fault Ok, unless memory ran out
abbrev pub Refuses : {A : Type 0} → Result A FileFault → Option FileFault → Type 0
Refuses (Ok value) fault = fault ≡ None
Refuses (Err NoMemory) fault = Unit {0}
Refuses (Err refusal) fault = fault ≡ Some refusal
