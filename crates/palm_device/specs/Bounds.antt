-- What the values of a device keep as their types do: widths of numbers, names, categories, ids and
-- lengths (Palm File Format
-- Specification).
use Rattle.std.specs.Prelude.{◌≡◌, ◌<◌, ◌≤◌, ◌^◌, ◌==◌, false, length, IfSome}
use Rattle.std.specs.List.{AllByRecursion, list_any}
use Rattle.pdb_values.specs.Bounds.{greatest_id, most_bytes}
use Rattle.pdb_values.specs.Databases.{DatabaseValue, IsDatabase}
use Rattle.pdb_values.specs.Names.{IsName}
use Rattle.pdb_values.specs.declared.head.DbHead.{DbHead}
use Rattle.pdb_values.specs.declared.record.Record.{Record}
use Rattle.pdb_values.specs.declared.resource.Resource.{Resource}
use Rattle.pdb_values.specs.declared.user.UserInfo.{UserInfo}
use Rattle.palm_device.specs.Devices.{Device}
use Rattle.palm_device.specs.declared.opened.Opened.{Opened}

-- an id of 24 bits, one of the sixteen categories, and at most 65,500 bytes
pub record IsBoundedRecord (item : Record) : Type 0 where
  pub id : item.id ≤ greatest_id
  pub category : item.content.category ≤ 15
  pub short : length item.content.bytes ≤ most_bytes

-- a type of four bytes, a number of 16 bits, and at most 65,500 bytes
pub record IsBoundedResource (resource : Resource) : Type 0 where
  pub kind : length resource.kind.0 ≡ 4
  pub id : resource.id < 2 ^ 16
  pub short : length resource.bytes ≤ most_bytes

-- the fields of a header
pub record IsBoundedHead (head : DbHead) : Type 0 where
  pub name : IsName head.name
  pub attributes : head.attributes < 2 ^ 16
  pub version : head.version < 2 ^ 16
  pub created : head.created < 2 ^ 32
  pub modified : head.modified < 2 ^ 32
  pub backup : head.backup < 2 ^ 32
  pub modnum : head.modnum < 2 ^ 32
  pub seed : head.seed < 2 ^ 32
  pub kind : length head.kind.0 ≡ 4
  pub creator : length head.creator.0 ≡ 4

-- a database whose head and entries do so
pub record IsBoundedDatabase (database : DatabaseValue) : Type 0 where
  pub whole : IsDatabase database
  pub head : IsBoundedHead database.head
  pub records : AllByRecursion IsBoundedRecord database.records
  pub resources : AllByRecursion IsBoundedResource database.resources

-- numbers and dates of 32 bits, and a name and a password of at most 40 bytes, with no zero in the
-- name
pub record IsBoundedUser (user : UserInfo) : Type 0 where
  pub number : user.user < 2 ^ 32
  pub viewer : user.viewer < 2 ^ 32
  pub pc : user.pc < 2 ^ 32
  pub good : user.good < 2 ^ 32
  pub last : user.last < 2 ^ 32
  pub short : length user.name ≤ 40
  pub no_zero : list_any (λ byte. byte == 0) user.name ≡ false
  pub password : length user.password ≤ 40

-- a name, a mode of one byte and a record index of two
pub record IsBoundedOpened (opened : Opened) : Type 0 where
  pub name : IsName opened.name
  pub mode : opened.mode < 2 ^ 8
  pub next : opened.next < 2 ^ 16

-- each database, the user, and whatever is open do so
pub record IsBounded (device : Device) : Type 0 where
  pub databases : AllByRecursion IsBoundedDatabase device.databases
  pub user : IsBoundedUser device.user
  pub handles : AllByRecursion (λ slot. IfSome slot IsBoundedOpened) device.handles
