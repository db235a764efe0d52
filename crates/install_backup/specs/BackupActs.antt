-- What a backup says: the requests for each database of the handheld, which is only read.
use Rattle.std.specs.Prelude.{ℕ, zero, suc, Bool, List, [], ◌∷◌, ◌++◌, length, max, if◌then◌else◌}
use Rattle.std.specs.List.{flat_map}
use Rattle.pdb_values.specs.Databases.{DatabaseValue}
use Rattle.pdb_values.specs.Heads.{holds_resources}
use Rattle.palm_device.specs.Blocks.{entry_count}
use Rattle.palm_device.specs.Devices.{Device}
use Rattle.desktop_session.specs.Acts.{Act}
use Rattle.desktop_session.specs.Lists.{listings}
use Rattle.desktop_session.specs.Requests.{counting, ending, opening_to_read, reading_app, reading_at, reading_resource, reading_sort}
use Rattle.session_parts.specs.Meets.{greeting}
use Rattle.session_parts.specs.Spans.{within}

-- acts at so many indexes from 0 on
unfoldable pub each_read : (ℕ → Act) → ℕ → List Act
each_read asks zero = []
each_read asks (suc count) = each_read asks count ++ asks count ∷ []

-- so many entries
abbrev pub entry_reads : Bool → ℕ → ℕ → List Act
entry_reads of_resources handle count =
    if of_resources then each_read (reading_resource handle) count
    else each_read (reading_at handle) count

-- the number of entries, both blocks, and the entries
abbrev pub backup_under : Bool → ℕ → ℕ → List Act
backup_under of_resources count handle =
    counting handle ∷ reading_app handle ∷ reading_sort handle
    ∷ entry_reads of_resources handle count

-- one database of a handheld on which nothing is open
unfoldable pub backup_of : DatabaseValue → List Act
backup_of database =
    within (opening_to_read database.head.name)
    (λ handle given. backup_under (holds_resources database.head.attributes)
    (entry_count database) handle) 1 []

-- the whole session
unfoldable pub backup_acts : Device → List Act
backup_acts device =
    greeting ++ (listings (max 1 (length device.databases))
    ++ (flat_map backup_of device.databases ++ ending ∷ []))
