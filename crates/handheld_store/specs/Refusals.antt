-- When a call on a store is refused, in the order of the refusals.
use Rattle.std.specs.Prelude.{ℕ, Bool, true, false, ◌&&◌, nat_le, is_some, if◌then◌else◌, List, length, Option, None, Some, Result, Ok, Err}
use Rattle.hs_folders.specs.declared.faults.FolderFault.{FolderFault}
use Rattle.hs_folders.specs.declared.faults.FolderFault.TheVariants as folder
use Rattle.pdb_values.specs.Databases.{DatabaseValue}
use Rattle.pdb_values.specs.NamedDatabases.{database_of}
use Rattle.palm_device.specs.Devices.{most_databases}
use Rattle.palm_device.specs.Heads.{is_read_only}
use Rattle.handheld_store.specs.declared.fault.StoreFault.{StoreFault}
use Rattle.handheld_store.specs.declared.fault.StoreFault.TheVariants.{NotFound, Exists, ReadOnly, Limit, KeeperFault, NoMemory}

-- why a database is not lent: none has the name, or it may only be read
abbrev pub open_fault : Bool → Option DatabaseValue → Option StoreFault
open_fault writes None = Some NotFound
open_fault writes (Some database) =
    if writes && is_read_only database.head.attributes then Some ReadOnly else None

-- why a database is not made: one has the name, or there are as many as there can be
abbrev pub create_fault : List ℕ → List DatabaseValue → Option StoreFault
create_fault name databases =
    if is_some (database_of name databases) then Some Exists else if nat_le most_databases
    (length databases) then Some Limit else None

-- why a database is not taken away: none has the name
abbrev pub delete_fault : List ℕ → List DatabaseValue → Option StoreFault
delete_fault name databases = if is_some (database_of name databases) then None else Some NotFound

-- the refusal of an answer, other than the folder's failure and want of memory
abbrev pub refusal_of : {A : Type 0} → Result A StoreFault → Option StoreFault
refusal_of (Ok done) = None
refusal_of (Err NotFound) = Some NotFound
refusal_of (Err Exists) = Some Exists
refusal_of (Err ReadOnly) = Some ReadOnly
refusal_of (Err Limit) = Some Limit
refusal_of (Err KeeperFault) = None
refusal_of (Err NoMemory) = None

-- the folder failed, or memory ran out, while a file was to be changed
abbrev pub stops : {A : Type 0} → Result A StoreFault → Bool
stops (Ok done) = false
stops (Err NotFound) = false
stops (Err Exists) = false
stops (Err ReadOnly) = false
stops (Err Limit) = false
stops (Err KeeperFault) = true
stops (Err NoMemory) = true

-- what a folder's fault makes of a call: a removal that finds no file is done, so nothing else can
-- be missing
abbrev pub store_fault : FolderFault → StoreFault
store_fault folder.Failed = KeeperFault
store_fault folder.Missing = NoMemory
store_fault folder.NoMemory = NoMemory
