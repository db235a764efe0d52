-- What contracts see of a server.
use Rattle.std.specs.Prelude.{Bool, List, Option}
use Rattle.palm_device.specs.Devices.{Device}
use Rattle.palm_device.specs.declared.opened.Opened.{Opened}
use Rattle.handheld_store.specs.Stores.{StoreValue}

-- a server is the folder that it keeps, the device that the folder stands for, and whether it is
-- sound
pub record ServerValue (F : Type 0) : Type 0 where
  pub folder : F
  pub device : Device
  pub sound : Bool

-- the store of a server: all but its handles
abbrev pub store_of : {F : Type 0} → ServerValue F → StoreValue F
store_of server = record {
  folder = server.folder;
  databases = server.device.databases;
  user = server.device.user;
  sound = server.sound;
}

-- the device of a store under these handles
abbrev pub device_of : {F : Type 0} → StoreValue F → List (Option Opened) → Device
device_of store handles = record {
  databases = store.databases;
  user = store.user;
  handles = handles;
}
