-- Resources of a database by type and id, and what becomes of them (pilot-link, `pi-dlp.h`).
use Rattle.std.specs.Prelude.{ℕ, Bool, ◌&&◌, ◌||◌, ◌==◌, List, length, nat_lt, is_some, position, Option}
use Rattle.std.specs.Str.{bytes_eq}
use Rattle.pdb_values.specs.Bounds.{most_entries}
use Rattle.pdb_values.specs.Databases.{DatabaseValue}
use Rattle.pdb_values.specs.Resources.{with_bytes}
use Rattle.pdb_values.specs.declared.resource.Resource.{Resource}
use Rattle.palm_device.specs.Entries.{put_entry, without_entry}

-- a resource has this type and id
abbrev pub is_resource : List ℕ → ℕ → Resource → Bool
is_resource kind id resource = bytes_eq resource.kind.0 kind && (resource.id == id)

-- where the first resource of a type and id stands
abbrev pub place_of_resource : List ℕ → ℕ → List Resource → Option ℕ
place_of_resource kind id resources = position (is_resource kind id) resources

-- a resource of this type and id is there, or one more fits
abbrev pub has_room : List ℕ → ℕ → List Resource → Bool
has_room kind id resources =
    is_some (place_of_resource kind id resources) || nat_lt (length resources) most_entries

-- a new resource
abbrev pub new_resource : List ℕ → ℕ → List ℕ → Resource
new_resource kind id bytes = record { kind = record { 0 = kind }; id = id; bytes = bytes }

-- the first resource of a type and id gets these bytes; where there is none, a new last one does
abbrev pub put_resource : List ℕ → ℕ → List ℕ → List Resource → List Resource
put_resource kind id bytes resources =
    put_entry (is_resource kind id) (with_bytes bytes) (new_resource kind id bytes) resources

-- the first resource of a type and id is gone
abbrev pub without_resource : List ℕ → ℕ → List Resource → List Resource
without_resource kind id resources = without_entry (is_resource kind id) resources

-- a database with other resources
abbrev pub with_resources : List Resource → DatabaseValue → DatabaseValue
with_resources resources database = record database { resources = resources }
