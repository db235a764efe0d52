-- What an install says: the requests for each database, in order, as the file alone gives them.
use Rattle.std.specs.Prelude.{ℕ, Bool, not, List, [], ◌∷◌, ◌++◌, filter, length, map, Option, None, Some, if◌then◌else◌}
use Rattle.std.specs.List.{flat_map, list_any}
use Rattle.pdb_values.specs.Databases.{DatabaseValue}
use Rattle.pdb_values.specs.Heads.{holds_resources, is_read_only}
use Rattle.pdb_values.specs.declared.record.Record.{Record}
use Rattle.pdb_values.specs.declared.resource.Resource.{Resource}
use Rattle.pdb_values.specs.declared.user.UserInfo.{UserInfo}
use Rattle.dlp_commands.specs.Talks.{Talk}
use Rattle.desktop_session.specs.Acts.{Act}
use Rattle.desktop_session.specs.Requests.{deleting, ending, making, putting, putting_resource, resetting, writing_app, writing_sort}
use Rattle.session_parts.specs.Spans.{within}
use Rattle.install_backup.specs.declared.moved.Moved.{Moved}
use Rattle.install_backup.specs.declared.mark.Mark.{Mark}
use Rattle.install_backup.specs.declared.mark.Mark.TheVariants.{Unchanged, NoDesktop, NewLife}
use Rattle.install_backup.specs.Installed.{installed_head, installed_records}
use Rattle.install_backup.specs.Marks.{marked_greeting}

-- a block that has bytes is written
abbrev pub block_acts : (ℕ → List ℕ → Act) → ℕ → Option (List ℕ) → List Act
block_acts writing handle None = []
block_acts writing handle (Some []) = []
block_acts writing handle (Some (byte ∷ bytes)) = writing handle (byte ∷ bytes) ∷ []

-- a record under its id, and a resource
abbrev pub put_record : ℕ → Record → Act
put_record handle item = putting 0 handle item.id item.content

abbrev pub put_resource : ℕ → Resource → Act
put_resource handle resource = putting_resource handle resource.kind.0 resource.id resource.bytes

-- these records, which then count as unchanged
abbrev pub record_acts : ℕ → List Record → List Act
record_acts handle records = map (put_record handle) records ++ resetting handle ∷ []

-- resources as the file has them, or the records that are to be installed
unfoldable pub entry_acts : ℕ → DatabaseValue → List Act
entry_acts handle database =
    if holds_resources database.head.attributes then map (put_resource handle) database.resources
    else record_acts handle (installed_records database.records)

-- both blocks, and the entries
unfoldable pub fill_acts : DatabaseValue → ℕ → List ℕ → List Act
fill_acts database handle given =
    block_acts writing_app handle database.app
    ++ (block_acts writing_sort handle database.sort ++ entry_acts handle database)

-- one database: the one of its name goes, and it is made and filled
unfoldable pub install_one : DatabaseValue → ℕ → List ℕ → List Act
install_one database handle given =
    deleting database.head.name
    ∷ within (making (installed_head database.head)) (fill_acts database) handle given

-- a read-only database can't be written, and is passed over
abbrev pub is_installable : DatabaseValue → Bool
is_installable database = not (is_read_only database.head.attributes)

unfoldable pub installs_under : Option Talk → DatabaseValue → ℕ → List ℕ → List Act
installs_under told database handle given =
    if is_installable database then install_one database handle given else []

-- one after another, each under handle 1
unfoldable pub installs_of : List DatabaseValue → List Act
installs_of databases =
    flat_map (λ database. install_one database 1 []) (filter is_installable databases)

-- the whole session, of a handheld that knows this of its user
unfoldable pub install_acts : Mark → UserInfo → List DatabaseValue → List Act
install_acts mark user databases =
    marked_greeting mark user ++ (installs_of databases ++ ending ∷ [])

-- the mark of a session that installs one database: no session reads a program
abbrev pub install_mark : DatabaseValue → Mark
install_mark database =
    if holds_resources database.head.attributes then Unchanged else NoDesktop

-- that of one that restores several: another life begins where one of them is installed
abbrev pub restore_mark : List DatabaseValue → Mark
restore_mark databases = if list_any is_installable databases then NewLife else Unchanged

-- how many entries are written: each resource of the file, or each record that is to be installed
unfoldable pub written_count : DatabaseValue → ℕ
written_count database =
    if holds_resources database.head.attributes then length database.resources
    else length (installed_records database.records)

-- nothing is told of a read-only one
abbrev pub entries_told : DatabaseValue → Option ℕ
entries_told database = if is_installable database then Some (written_count database) else None

-- what is told of it
abbrev pub moved_of : DatabaseValue → Moved
moved_of database = record { name = database.head.name; entries = entries_told database }
