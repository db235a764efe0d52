-- The attributes of a database that a handheld looks at (Palm File Format Specification, header of
-- a database).
use Rattle.std.specs.Prelude.{ℕ, List, bit_and}
use Rattle.pdb_values.specs.declared.head.DbHead.{DbHead}
pub use Rattle.pdb_values.specs.Heads.{has_bit, is_read_only}

-- the head of a database that is made now: no dates, no changes, no seed, and not marked as open
-- (0x8000)
abbrev pub new_head : List ℕ → List ℕ → List ℕ → ℕ → ℕ → DbHead
new_head name kind creator attributes version =
    record {
      name = name;
      attributes = bit_and attributes 0x7fff;
      version = version;
      created = 0;
      modified = 0;
      backup = 0;
      modnum = 0;
      seed = 0;
      kind = record { 0 = kind };
      creator = record { 0 = creator };
    }
