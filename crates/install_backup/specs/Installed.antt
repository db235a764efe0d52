-- What a file's database becomes on a handheld that it is installed on (pilot-link, `pi-file.c`:
-- pi_file_install).
use Rattle.std.specs.Prelude.{◌≡◌, ℕ, Bool, false, List, [], ◌∷◌, map, filter, Option, None, Some, if◌then◌else◌}
use Rattle.std.specs.List.{list_any}
use Rattle.pdb_values.specs.Databases.{DatabaseValue}
use Rattle.pdb_values.specs.NamedDatabases.{with_put}
use Rattle.pdb_values.specs.Records.{is_live}
use Rattle.pdb_values.specs.Resources.{with_bytes}
use Rattle.pdb_values.specs.declared.head.DbHead.{DbHead}
use Rattle.pdb_values.specs.declared.record.Record.{Record}
use Rattle.pdb_values.specs.declared.resource.Resource.{Resource}
use Rattle.palm_device.specs.Blocks.{block_or_none}
use Rattle.palm_device.specs.Devices.{Device}
use Rattle.palm_device.specs.FreshIds.{with_fresh_ids}
use Rattle.palm_device.specs.Heads.{new_head}
use Rattle.palm_device.specs.Resources.{is_resource}

-- name, type, creator, version and attributes, but not that it is open; no dates, no changes, no
-- seed
abbrev pub installed_head : DbHead → DbHead
installed_head head = new_head head.name head.kind.0 head.creator.0 head.attributes head.version

-- a block that has bytes
abbrev pub installed_block : Option (List ℕ) → Option (List ℕ)
installed_block None = None
installed_block (Some bytes) = block_or_none bytes

-- the record counts as unchanged, and no application is at work on it
abbrev pub untouched : Record → Record
untouched item = record item { dirty = false; busy = false }

-- the records without the delete bit, in order, each under its own id or a fresh one
unfoldable pub installed_records : List Record → List Record
installed_records records = map untouched (with_fresh_ids (filter is_live records))

-- both have one type and one id
abbrev pub same_key : Resource → Resource → Bool
same_key one other = is_resource one.kind.0 one.id other

-- no two of them share type and id
abbrev pub AreApart : List Resource → Type 0
AreApart [] = Unit {0}
AreApart (resource ∷ later) = (list_any (same_key resource) later ≡ false) × AreApart later

-- the bytes of the last one of its type and id, among itself and those behind it
unfoldable pub last_bytes : Resource → List Resource → List ℕ
last_bytes resource [] = resource.bytes
last_bytes resource (next ∷ later) =
    if same_key resource next then last_bytes next later else last_bytes resource later

-- of resources of one type and id the first one's place, with the last one's bytes
unfoldable pub installed_behind : List Resource → List Resource → List Resource
installed_behind earlier [] = []
installed_behind earlier (resource ∷ later) =
    if list_any (same_key resource) earlier then installed_behind earlier later
    else with_bytes (last_bytes resource later) resource
    ∷ installed_behind (resource ∷ earlier) later

unfoldable pub installed : DatabaseValue → DatabaseValue
installed database = record {
  head = installed_head database.head;
  app = installed_block database.app;
  sort = installed_block database.sort;
  records = installed_records database.records;
  resources = installed_behind [] database.resources;
}

-- the handheld's databases with it in place of the one of its name
abbrev pub with_installed : DatabaseValue → List DatabaseValue → List DatabaseValue
with_installed database databases = with_put (installed database) databases

-- the handheld with these databases
abbrev pub installed_on : DatabaseValue → Device → Device
installed_on database device =
    record device { databases = with_installed database device.databases }
