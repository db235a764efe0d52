-- A database that is lent, and what a change makes of its selected record.
use Rattle.std.specs.Prelude.{ℕ, Bool, true}
use Rattle.pdb_values.specs.Databases.{DatabaseValue}
use Rattle.pdb_values.specs.declared.record.Record.{Record}
use Rattle.palm_device.specs.Entries.{change_at}
use Rattle.palm_device.specs.Records.{with_records}

-- the database, and the place of the record that is selected
pub record LentValue : Type 0 where
  pub database : DatabaseValue
  pub place : ℕ

-- another database that is lent, with the same record selected
abbrev pub with_database : DatabaseValue → LentValue → LentValue
with_database database lent = record lent { database = database }

-- a record in another category is dirty
abbrev pub moved_to : ℕ → Record → Record
moved_to category item = record item {
  dirty = true;
  content = record item.content { category = category };
}

-- a record counts as changed or not
abbrev pub flagged : Bool → Record → Record
flagged dirty item = record item { dirty = dirty }

-- a change of the selected record; all else stays
abbrev pub with_selected : (Record → Record) → LentValue → LentValue
with_selected change lent =
    with_database
    (with_records (change_at change lent.place lent.database.records) lent.database) lent
