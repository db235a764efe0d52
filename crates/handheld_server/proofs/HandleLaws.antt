-- What a handle leads to.
use Rattle.std.proofs.Common.{◌≡◌, ℕ, Some, None}
use Rattle.pdb_values.specs.Databases.{DatabaseValue}
use Rattle.pdb_values.specs.NamedDatabases.{database_of}
use Rattle.palm_device.specs.Devices.{Device}
use Rattle.palm_device.specs.Handles.{base_at, opened_at}
use Rattle.palm_device.specs.declared.opened.Opened.{Opened}
use Rattle.dlp_commands.proofs.ReachedLaws.{base_at-closed, base_at-nowhere, base_at-there}

pub base_closed : (device : Device) (handle : ℕ) → opened_at handle device.handles ≡ None → base_at device handle ≡ None
base_closed device handle none = base_at-closed device handle none

pub base_nowhere : (device : Device) (handle : ℕ) (opened : Opened)
    → opened_at handle device.handles ≡ Some opened → database_of opened.name device.databases ≡ None → base_at device handle ≡ None
base_nowhere device handle opened is none = base_at-nowhere device handle opened is none

pub base_there : (device : Device) (handle : ℕ) (opened : Opened) (database : DatabaseValue)
    → opened_at handle device.handles ≡ Some opened → database_of opened.name device.databases ≡ Some database
    → base_at device handle ≡ Some (record { opened = opened; database = database })
base_there device handle opened database is there = base_at-there device handle opened database is there
