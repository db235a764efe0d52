-- A handheld as a HotSync sees it: databases, a user, and the handles of open databases
-- (pilot-link, `pi-dlp.h`).
use Rattle.std.specs.Prelude.{List, Option}
pub use Rattle.pdb_values.specs.Bounds.{most_databases}
use Rattle.pdb_values.specs.Databases.{DatabaseValue}
use Rattle.pdb_values.specs.NamedDatabases.{replaced}
use Rattle.pdb_values.specs.declared.user.UserInfo.{UserInfo}
use Rattle.palm_device.specs.declared.opened.Opened.{Opened}

-- the databases in byte order of their names, what the handheld knows of its user, and what is open
-- under the handles 1 to 8
pub record Device : Type 0 where
  pub databases : List DatabaseValue
  pub user : UserInfo
  pub handles : List (Option Opened)

-- another value of the database of this one's name; all else stays
abbrev pub with_database : Device → DatabaseValue → Device
with_database device database = record device { databases = replaced database device.databases }

-- the same handles over the same databases and user, or other handles
abbrev pub with_handles : Device → List (Option Opened) → Device
with_handles device handles = record device { handles = handles }
