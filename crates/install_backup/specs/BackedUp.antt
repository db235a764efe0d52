-- A handheld's database as a backup has it.
use Rattle.std.specs.Prelude.{◌≡◌, true, false, [], Some}
use Rattle.std.specs.List.{AllByRecursion}
use Rattle.pdb_values.specs.Databases.{DatabaseValue}
use Rattle.pdb_values.specs.Heads.{has_bit}
use Rattle.pdb_values.specs.declared.head.DbHead.{DbHead}
use Rattle.pdb_values.specs.declared.record.Record.{Record}
use Rattle.dlp_commands.specs.DatabaseFunctions.{listed}
use Rattle.handheld_files.specs.Settled.{are_settled}
use Rattle.install_backup.specs.Installed.{AreApart}

-- without its seed, which no reply tells
abbrev pub backed_up : DatabaseValue → DatabaseValue
backed_up database = record database { head = listed database.head }

-- no application is at work on a record
abbrev pub HasNoneBusy : DatabaseValue → Type 0
HasNoneBusy database = AllByRecursion (λ (item : Record). item.busy ≡ false) database.records

-- no dates, no changes and no seed, and not marked as open
pub record IsUnmarkedHead (head : DbHead) : Type 0 where
  pub created : head.created ≡ 0
  pub modified : head.modified ≡ 0
  pub backup : head.backup ≡ 0
  pub modnum : head.modnum ≡ 0
  pub seed : head.seed ≡ 0
  pub closed : has_bit 0x8000 head.attributes ≡ false

-- A file's database of which an install leaves nothing out: an unmarked head, no block that is
-- there without a byte, records that are live and unchanged, each idle and under an id of its own,
-- and no two resources of one type and id.
pub record IsUnmarked (database : DatabaseValue) : Type 0 where
  pub head : IsUnmarkedHead database.head
  pub app : ¬ (database.app ≡ Some [])
  pub sort : ¬ (database.sort ≡ Some [])
  pub live : AllByRecursion (λ (item : Record). item.deleted ≡ false) database.records
  pub unchanged : AllByRecursion (λ (item : Record). item.dirty ≡ false) database.records
  pub settled : are_settled database.records ≡ true
  pub apart : AreApart database.resources
