-- Whether a handheld has room for a database: it has one of its name, or fewer than it can have
-- (pilot-link, `pi-dlp.h`: dlpErrLimit).
use Rattle.std.specs.Prelude.{◌≡◌, ◌⊎◌, ◌&&◌, ◌||◌, ◌==◌, ℕ, Bool, true, false, List, length, map, nat_lt, Option, IfSome, Result, Ok, Err, is_some, if◌then◌else◌}
use Rattle.std.specs.List.{AllByRecursion}
use Rattle.pdb_values.specs.Databases.{DatabaseValue}
use Rattle.pdb_values.specs.Heads.{is_read_only}
use Rattle.pdb_values.specs.NamedDatabases.{database_of}
use Rattle.pdb_values.specs.Names.{IsName}
use Rattle.palm_device.specs.Bounds.{IsBoundedDatabase}
use Rattle.palm_device.specs.Devices.{Device, most_databases}
use Rattle.palm_device.specs.Handles.{no_handles}
use Rattle.dlp_commands.specs.Errors.{limit}
use Rattle.dlp_commands.specs.declared.link.LinkFault.{LinkFault}
use Rattle.dlp_commands.specs.Talks.{Talk}
use Rattle.desktop_session.specs.declared.fault.SessionFault.{SessionFault}
use Rattle.desktop_session.specs.declared.fault.SessionFault.TheVariants as session
use Rattle.desktop_session.specs.Acts.{Act, text}
use Rattle.desktop_session.specs.Stops.{Does, Stops}
use Rattle.session_parts.specs.Rests.{IsAtRest}
use Rattle.session_parts.specs.declared.stop.Stop.{Stop}
use Rattle.session_parts.specs.declared.stop.Stop.TheVariants as stop
use Rattle.install_backup.specs.InstallActs.{is_installable}

-- databases among which there is room for one of this name
abbrev pub has_room : List ℕ → List DatabaseValue → Bool
has_room name databases =
    is_some (database_of name databases) || nat_lt (length databases) most_databases

-- where a device is told for which this holds, it has room for a database of this name, or it has
-- none
abbrev pub Judges : (Device → Type 0) → Bool → List ℕ → Option Talk → Type 0
Judges Holds room name told =
    IfSome told (λ talk. Holds talk.device → has_room name talk.device.databases ≡ room)

-- nothing is open on a handheld
abbrev pub HasNoneOpen : Device → Type 0
HasNoneOpen device = device.handles ≡ no_handles

-- databases whose heads and entries keep the bounds of their types
abbrev pub AreAllBounded : List DatabaseValue → Type 0
AreAllBounded databases = AllByRecursion IsBoundedDatabase databases

-- a handheld on which nothing is open has room for a database that is not read-only
pub record CanInstall (device : Device) (database : DatabaseValue) : Type 0 where
  pub rests : IsAtRest device
  pub bounded : IsBoundedDatabase database
  pub writable : is_read_only database.head.attributes ≡ false
  pub room : has_room database.head.name device.databases ≡ true

-- a handheld on which nothing is open, for a database that has a name
abbrev pub RestsFor : DatabaseValue → Device → Type 0
RestsFor database device = IsAtRest device × IsName database.head.name

-- a database that is installed had room
abbrev pub HadRoom : DatabaseValue → Option Talk → Type 0
HadRoom database told =
    is_installable database ≡ true → Judges (RestsFor database) true database.head.name told

-- A database of this name that was to be made by these acts had room, where a device is told for
-- which this holds, or no more was asked for than these.
abbrev pub IsWithin : {L : Type 0} → (L → Option Talk) → (L → L → Type 0) → (L → Option LinkFault)
    → (L → ℕ) → (Device → Type 0) → List Act → List ℕ → L → L → Type 0
IsWithin talk since fault downs Holds acts name old new =
    Judges Holds true name (talk old) ⊎ Stops talk since fault downs (map text acts) old new

-- ---- why an install stops

-- not for want of room for a database that was to be made
abbrev pub IsNoLimit : SessionFault → Type 0
IsNoLimit (session.Refused function code) = ((function == 0x18) && (code.0 == limit)) ≡ false
IsNoLimit other = Unit {0}

-- what an install stops for, where a database of this name was to be made: that this is refused for
-- want of room is a limit
abbrev pub stop_at : List ℕ → SessionFault → Stop
stop_at name (session.Refused function code) =
    if (function == 0x18) && (code.0 == limit) then stop.Limit name
    else stop.Session (session.Refused function code)
stop_at name cause = stop.Session cause

-- the same as a session's own fault
abbrev pub fault_of : Stop → SessionFault
fault_of (stop.Session cause) = cause
fault_of (stop.Limit name) = session.Refused 0x18 (record { 0 = limit })
fault_of other = session.NoMemory

abbrev pub fault_in : {A : Type 0} → Result A Stop → Result A SessionFault
fault_in (Ok x) = Ok x
fault_in (Err why) = Err (fault_of why)

-- A stop for a limit names the database that was to be made by these acts, which were all that was
-- asked for. Where a device is told for which this holds, it has no room for it. It stops for
-- nothing else but what its link, another reply or its memory is the cause of.
abbrev pub IsUnmade : {L : Type 0} → (L → Option Talk) → (Device → Type 0) → List Act → List ℕ → L
    → L → Stop → Type 0
IsUnmade talk Holds acts name old new (stop.Session cause) = IsNoLimit cause
IsUnmade talk Holds acts name old new (stop.Limit other) =
    (other ≡ name) × Does talk acts old new × Judges Holds false name (talk old)
IsUnmade talk Holds acts name old new other = ⊥
