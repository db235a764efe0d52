-- The blocks that a session leaves on the handheld.
use Rattle.std.specs.Prelude.{◌≡◌, ℕ, List, Option, None, Some}
use Rattle.pdb_values.specs.Databases.{DatabaseValue}
use Rattle.pdb_values.specs.NamedDatabases.{database_of}
use Rattle.palm_device.specs.Devices.{Device}
use Rattle.session_plan.specs.Blocks.{GivenBlocks, blocks_of, no_blocks}
use Rattle.session_plan.specs.Tasks.{Meeting, task_of}
use Rattle.front_laws.specs.Meetings.{IsActive}

-- the blocks of a database that may not be there
abbrev pub held_blocks : Option DatabaseValue → GivenBlocks
held_blocks None = no_blocks
held_blocks (Some database) = record { app = database.app; sort = database.sort }

-- a session makes the database of a name on the handheld, which lacks it
pub record IsMade (meeting : Meeting) (name : List ℕ) : Type 0 where
  pub active : IsActive meeting name
  pub lacks : (task_of meeting name).handheld ≡ None

-- it has the blocks of the desktop's rows there, those that have bytes
abbrev pub HasBlocks : Meeting → Device → List ℕ → Type 0
HasBlocks meeting device name =
    held_blocks (database_of name device.databases) ≡ blocks_of (task_of meeting name).rows

-- it has the blocks there that the handheld had
abbrev pub KeepsBlocks : Meeting → Device → List ℕ → Type 0
KeepsBlocks meeting device name =
    held_blocks (database_of name device.databases)
    ≡ held_blocks (task_of meeting name).handheld
