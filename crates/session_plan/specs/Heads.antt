-- The heads of databases that a session makes.
use Rattle.std.specs.Prelude.{ℕ, bit_and}
use Rattle.pdb_values.specs.declared.head.DbHead.{DbHead}

-- attributes of a database that is neither hidden (0x0004) nor marked as open (0x8000)
abbrev pub plain_attributes : ℕ → ℕ
plain_attributes attributes = bit_and attributes 0x7FFB

-- by it a database is made that the handheld lacks: the name, type, creator, version and attributes
-- of the desktop's rows
abbrev pub made_head : DbHead → DbHead
made_head rows = record rows { attributes = plain_attributes rows.attributes }

-- new rows on the desktop have it: those of the handheld's database, made and changed at the
-- session's date
abbrev pub rows_head : ℕ → DbHead → DbHead
rows_head date handheld = record handheld {
  attributes = plain_attributes handheld.attributes;
  created = date;
  modified = date;
  backup = 0;
  modnum = 0;
  seed = 0;
}
