-- Where a handheld stands in the midst of an install.
use Rattle.std.specs.Prelude.{◌≡◌, ◌⊎◌, ℕ, false, List, [], ◌∷◌, ◌++◌, Option, Some, None, filter, map, take}
use Rattle.std.specs.Str.{bytes_eq}
use Rattle.pdb_values.specs.Databases.{DatabaseValue}
use Rattle.pdb_values.specs.NamedDatabases.{database_of}
use Rattle.pdb_values.specs.declared.user.Marks.{Marks}
use Rattle.palm_device.specs.Devices.{Device}
use Rattle.palm_device.specs.Records.{reset_flags}
use Rattle.desktop_session.specs.Acts.{text}
use Rattle.mirrors.specs.Agreements.{agreed}
use Rattle.session_parts.specs.Fronts.{Front}
use Rattle.install_backup.specs.declared.mark.Mark.{Mark}
use Rattle.install_backup.specs.InstallActs.{install_acts, is_installable}
use Rattle.install_backup.specs.InstallEnds.{all_installed}
use Rattle.install_backup.specs.Installed.{installed_block, installed_head, installed_records}
use Rattle.install_backup.specs.Marks.{marked_user}
use Rattle.install_backup.specs.Puts.{put_each}
use Rattle.install_backup.specs.Rooms.{AreAllBounded}

-- A database of a file as far as it was written: under its head, each block there or not yet, and
-- the first of its entries, of which records may still count as changed.
pub record IsBegun (database made : DatabaseValue) : Type 0 where
  pub head : made.head ≡ installed_head database.head
  pub app : (made.app ≡ None) ⊎ (made.app ≡ installed_block database.app)
  pub sort : (made.sort ≡ None) ⊎ (made.sort ≡ installed_block database.sort)
  pub records : (count : ℕ)
      × (reset_flags made.records ≡ take count (installed_records database.records))
  pub resources : (count : ℕ) × (made.resources ≡ put_each (take count database.resources) [])

-- the handheld's database of its name is as it was, or gone, or begun anew
abbrev pub IsUnderway : DatabaseValue → Option DatabaseValue → Option DatabaseValue → Type 0
IsUnderway database before now =
    (now ≡ before)
    ⊎ ((now ≡ None) ⊎ ((made : DatabaseValue) × (now ≡ Some made) × IsBegun database made))

-- so of the first of these, if there is one
abbrev pub FirstIsUnderway : List DatabaseValue → List DatabaseValue → List DatabaseValue → Type 0
FirstIsUnderway [] before now = Unit {0}
FirstIsUnderway (database ∷ databases) before now =
    IsUnderway database (database_of database.head.name before) (database_of database.head.name now)

-- the first of these has another name, if there is one
abbrev pub IsNotFirst : List ℕ → List DatabaseValue → Type 0
IsNotFirst name [] = Unit {0}
IsNotFirst name (database ∷ databases) = bytes_eq database.head.name name ≡ false

-- The databases in front of one are installed, that one may be on its way, and each of another name
-- is as it was then.
pub record StandsInTurn (databases : List DatabaseValue) (device after : Device) : Type 0 where
  pub before : List DatabaseValue
  pub later : List DatabaseValue
  pub parts : before ++ later ≡ databases
  pub first : FirstIsUnderway later (all_installed before device.databases) after.databases
  pub others : (name : List ℕ) → IsNotFirst name later
      → database_of name after.databases ≡ database_of name (all_installed before device.databases)

-- what an install of these databases with a mark left of a handheld, wherever it stopped
pub record InstallFront (device : Device) (mark : Mark) (databases : List DatabaseValue)
    (after : Device) : Type 0 where
  pub bounded : AreAllBounded databases
  pub writes : ℕ
  pub given : List ℕ
  pub front : Front device (map text (install_acts mark device.user databases)) writes given after

-- a handheld is as it was
pub record IsAsItWas (device after : Device) : Type 0 where
  pub user : after.user ≡ device.user
  pub databases : after.databases ≡ device.databases

-- the mark comes first: what the handheld knows of its user has it, or nothing has changed
abbrev pub IsMarkedFirst : Mark → Device → Device → Type 0
IsMarkedFirst mark device after =
    (after.user ≡ marked_user mark device.user) ⊎ IsAsItWas device after

-- this desktop doesn't agree with the handheld, or nothing has changed
abbrev pub IsReadNext : Marks → Device → Device → Type 0
IsReadNext desktop device after = (agreed after.user desktop ≡ false) ⊎ IsAsItWas device after

-- no database of this name is installed
abbrev pub IsOther : List ℕ → List DatabaseValue → Type 0
IsOther name databases = database_of name (filter is_installable databases) ≡ None

-- what a handheld has under this name is as it was
abbrev pub HasAsBefore : List ℕ → Device → Device → Type 0
HasAsBefore name device after =
    database_of name after.databases ≡ database_of name device.databases
