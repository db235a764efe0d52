-- The handles of open databases, 1 to 8 (pilot-link, `pi-dlp.h`: dlp_OpenDB).
use Rattle.std.specs.Prelude.{ℕ, ◌+◌, ◌-◌, Bool, false, ◌&&◌, not, List, replicate, position, slice_get, slice_set, Option, None, Some, option_and_then}
use Rattle.std.specs.Prelude.{is_none, is_some, ◌==◌, if◌then◌else◌}
use Rattle.std.specs.Str.{bytes_eq}
use Rattle.std.specs.Option.{option_map}
use Rattle.pdb_values.specs.Databases.{DatabaseValue}
use Rattle.pdb_values.specs.NamedDatabases.{database_of}
use Rattle.palm_device.specs.Devices.{Device}
use Rattle.palm_device.specs.Heads.{has_bit, is_read_only}
use Rattle.palm_device.specs.declared.opened.Opened.{Opened}

-- nothing is open
abbrev pub no_handles : List (Option Opened)
no_handles = replicate 8 None

-- a handle stands for the database of this name
abbrev pub opens : List ℕ → Option Opened → Bool
opens name None = false
opens name (Some opened) = bytes_eq opened.name name

-- where a database of this name is open
abbrev pub place_open : List ℕ → List (Option Opened) → Option ℕ
place_open name handles = position (opens name) handles

-- a database of this name is open
abbrev pub is_open : List ℕ → List (Option Opened) → Bool
is_open name handles = is_some (place_open name handles)

-- the place of the least free handle
abbrev pub least_free : List (Option Opened) → Option ℕ
least_free handles = position is_none handles

-- the least free handle
abbrev pub free_handle : List (Option Opened) → Option ℕ
free_handle handles = option_map (λ place. place + 1) (least_free handles)

-- what stands at a place, where something does
abbrev pub joined : {A : Type 0} → Option (Option A) → Option A
joined None = None
joined (Some found) = found

-- what is open under a handle: handle 1 has the first place
abbrev pub opened_at : ℕ → List (Option Opened) → Option Opened
opened_at handle handles = if handle == 0 then None else joined (slice_get handles (handle - 1))

-- a handle after something else stands under it
abbrev pub with_handle : ℕ → Option Opened → List (Option Opened) → List (Option Opened)
with_handle handle opened handles = slice_set handles (handle - 1) opened

-- what is freshly open: its record index is 0
abbrev pub just_opened : List ℕ → ℕ → Opened
just_opened name mode = record { name = name; mode = mode; next = 0 }

-- what a handle leads to: what is open, and the database of its name
pub record Base : Type 0 where
  pub opened : Opened
  pub database : DatabaseValue

-- the base of what is open
abbrev pub base_of : Device → Opened → Option Base
base_of device opened =
    option_map (λ database. record { opened = opened; database = database })
    (database_of opened.name device.databases)

-- the base of a handle
abbrev pub base_at : Device → ℕ → Option Base
base_at device handle = option_and_then (base_of device) (opened_at handle device.handles)

-- mode 0x40 is for writing, and a read-only database can't be written
abbrev pub is_writable : Base → Bool
is_writable base = has_bit 0x40 base.opened.mode && not (is_read_only base.database.head.attributes)
