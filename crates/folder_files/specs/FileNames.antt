-- The names of the files in a handheld's folder and in a desktop's.
use Rattle.std.specs.Prelude.{ℕ, zero, suc, List, [], ◌++◌, Bool, ◌||◌, nat_eq, bytes_eq, codes, if◌then◌else◌}
use Rattle.std.specs.Fmt.{decimal}
use Rattle.std.specs.List.{ends_with}
use Rattle.pdb_values.specs.declared.head.DbHead.{DbHead}
use Rattle.pdb_values.specs.Heads.{holds_resources}
use Rattle.pdb_values.specs.Stems.{stem_of}

-- a name ends in these bytes
abbrev pub has_ending : List ℕ → List ℕ → Bool
has_ending ending name = ends_with nat_eq name ending

-- the file of a database of records, on both sides
abbrev pub rows_file : List ℕ → List ℕ
rows_file name = stem_of name ++ codes ".pdb"

-- the file of a database of resources
abbrev pub resources_file : List ℕ → List ℕ
resources_file name = stem_of name ++ codes ".prc"

-- the file of the base rows of a database
abbrev pub base_file : List ℕ → List ℕ
base_file name = stem_of name ++ codes ".base"

-- the file of the archive of a database
abbrev pub archive_file : List ℕ → List ℕ
archive_file name = stem_of name ++ codes ".arc"

-- the file of a database, by what it holds
abbrev pub database_file : DbHead → List ℕ
database_file head =
    if holds_resources head.attributes then resources_file head.name else rows_file head.name

-- what stands in front of the name of a file of a desktop's slot: nothing for slot 0, else `s`, the
-- number of the slot and a dot
abbrev pub slot_prefix : ℕ → List ℕ
slot_prefix zero = []
slot_prefix (suc number) = codes "s" ++ (decimal (suc number) ++ codes ".")

-- the information file of a handheld
abbrev pub device_info_file : List ℕ
device_info_file = codes "device.inf"

-- the information file of a desktop
abbrev pub desktop_info_file : List ℕ
desktop_info_file = codes "desktop.inf"

-- the journal of a desktop
abbrev pub journal_file : List ℕ
journal_file = codes "hotsync.journal"

-- a handheld reads databases and its information file
abbrev pub is_handheld_file : List ℕ → Bool
is_handheld_file name =
    has_ending (codes ".pdb") name
    || (has_ending (codes ".prc") name || bytes_eq name device_info_file)

-- a desktop keeps rows, bases, archives and its information file
abbrev pub is_kept_file : List ℕ → Bool
is_kept_file name =
    has_ending (codes ".pdb") name
    || (has_ending (codes ".base") name
    || (has_ending (codes ".arc") name || bytes_eq name desktop_info_file))
