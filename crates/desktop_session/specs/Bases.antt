-- An open database of a device, and what a session takes of it.
use Rattle.std.specs.Prelude.{◌≡◌, ◌<◌, ◌^◌, ℕ, true, Option, Some, Result, Ok, slice_get}
use Rattle.pdb_values.specs.NamedDatabases.{with_new}
use Rattle.pdb_values.specs.declared.head.DbHead.{DbHead}
use Rattle.pdb_values.specs.declared.record.Record.{Record}
use Rattle.pdb_values.specs.declared.resource.Resource.{Resource}
use Rattle.dlp_replies.specs.ReplyReading.{reply_at}
use Rattle.dlp_replies.specs.ReplyValues.{ReplyValue}
use Rattle.dlp_commands.specs.Holding.{on_records, on_resources}
use Rattle.palm_device.specs.Blocks.{empty_database}
use Rattle.palm_device.specs.Devices.{Device}
use Rattle.palm_device.specs.Handles.{Base, base_at, just_opened, no_handles, with_handle}
use Rattle.palm_device.specs.Heads.{new_head}
use Rattle.desktop_session.specs.declared.fault.SessionFault.{SessionFault}
use Rattle.desktop_session.specs.Acts.{Act, acted}
use Rattle.desktop_session.specs.Answers.{record_of, resource_of, said_in}
use Rattle.desktop_session.specs.Lent.{record_lent, resource_lent}
use Rattle.desktop_session.specs.Tellings.{IsTellable, number_of}

-- ---- what a handle stands for

-- of a device whose values keep their bounds, an open database of records
pub record OpenRecords (device : Device) (handle : ℕ) (base : Base) : Type 0 where
  pub proper : IsTellable device
  pub byte : handle < 2 ^ 8
  pub stands : base_at device handle ≡ Some base
  pub records : on_records base.database ≡ true

-- the open database of a handle has this record where a place is found in it
pub record HasRecord (device : Device) (handle : ℕ) (found : Base → Option ℕ) (item : Record)
    : Type 0 where
  pub base : Base
  pub place : ℕ
  pub opened : OpenRecords device handle base
  pub is_found : found base ≡ Some place
  pub there : slice_get base.database.records place ≡ Some item

-- the open database of a handle is one of resources, and has this one at a place
pub record HasResource (device : Device) (handle place : ℕ) (resource : Resource) : Type 0 where
  pub base : Base
  pub proper : IsTellable device
  pub byte : handle < 2 ^ 8
  pub stands : base_at device handle ≡ Some base
  pub resources : on_resources base.database ≡ true
  pub there : slice_get base.database.resources place ≡ Some resource

-- the device where a database of this head is made: it is empty, and open under handle 1
abbrev pub with_made : DbHead → Device → Device
with_made head device = record device {
  databases = with_new
      (empty_database
      (new_head head.name head.kind.0 head.creator.0 head.attributes head.version))
      device.databases;
  handles = with_handle 1 (Some (just_opened head.name 0xC0)) no_handles;
}

-- ---- what is lent

-- what a session takes from the device's reply to an act
abbrev pub taken_of : {A : Type 0} → (ReplyValue → A) → Act → Device → Result A SessionFault
taken_of take one device =
    said_in (number_of one) take (reply_at (number_of one) (acted one device).0)

-- a record of the device's
abbrev pub SaysRecord : Act → Device → Record → Type 0
SaysRecord one device item = taken_of record_of one device ≡ Ok (record_lent item)

-- a resource of the device's
abbrev pub SaysResource : Act → Device → Resource → Type 0
SaysResource one device resource = taken_of resource_of one device ≡ Ok (resource_lent resource)
