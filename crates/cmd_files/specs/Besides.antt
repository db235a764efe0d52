-- What stands on a handheld however far an installing of databases came.
use Rattle.std.specs.Prelude.{◌≡◌, ℕ, List, filter, Option, None}
use Rattle.hs_folders.specs.FileMaps.{FileMap}
use Rattle.pdb_values.specs.Databases.{DatabaseValue}
use Rattle.pdb_values.specs.NamedDatabases.{database_of}
use Rattle.palm_device.specs.Devices.{Device}
use Rattle.handheld_files.specs.Openings.{Stands}
use Rattle.install_backup.specs.declared.mark.Mark.{Mark}
use Rattle.install_backup.specs.InstallActs.{is_installable}
use Rattle.install_backup.specs.InstallEnds.{first_full}
use Rattle.install_backup.specs.InstallFronts.{IsMarkedFirst, StandsInTurn}

-- However far it came, the handheld has its user with the mark, or all is as it was; and it has
-- each of its databases whose name none of these has that is installed. Where there is room for
-- all, those in front of one are installed, that one is as it was, or gone, or made anew with a
-- beginning of its blocks and entries, and each of another name is as it was then.
pub record StandsBeside (mark : Mark) (device : Device) (databases : List DatabaseValue)
    (told : Option FileMap) : Type 0 where
  pub reached : Device
  pub stands : Stands told reached.databases reached.user
  pub user : IsMarkedFirst mark device reached
  pub others : (name : List ℕ) → database_of name (filter is_installable databases) ≡ None
      → database_of name reached.databases ≡ database_of name device.databases
  pub in_turn : first_full databases device.databases ≡ None → StandsInTurn databases device reached
