-- What is written into an open database of a handheld.
use Rattle.std.specs.Prelude.{◌≡◌, ℕ, true, Some}
use Rattle.pdb_values.specs.Databases.{DatabaseValue}
use Rattle.pdb_values.specs.declared.resource.Resource.{Resource}
use Rattle.palm_device.specs.Devices.{Device, with_database}
use Rattle.palm_device.specs.Handles.{Base, base_at, is_writable}
use Rattle.palm_device.specs.Resources.{put_resource, with_resources}
use Rattle.desktop_session.specs.Acts.{Act, acted}
use Rattle.desktop_session.specs.Orders.{TakesResource}

-- a handle stands for this open database, which may be written
pub record OpenToWrite (device : Device) (handle : ℕ) (base : Base) : Type 0 where
  pub stands : base_at device handle ≡ Some base
  pub writable : is_writable base ≡ true

-- it is one of resources, and has room for this one
pub record HasPlaceFor (device : Device) (handle : ℕ) (base : Base) (resource : Resource)
    : Type 0 where
  pub stands : base_at device handle ≡ Some base
  pub takes : TakesResource resource.kind.0 resource.id base

-- a database with a resource in place of the first one of its type and id, or else as a new last
-- one
abbrev pub put_into : Resource → DatabaseValue → DatabaseValue
put_into resource database =
    with_resources
    (put_resource resource.kind.0 resource.id resource.bytes database.resources)
    database

-- an act makes this of the database of its name, and of nothing else
abbrev pub PutsDatabase : Act → Device → DatabaseValue → Type 0
PutsDatabase one device database = (acted one device).1 ≡ with_database device database
