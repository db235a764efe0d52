-- Bounds of a database and of a side of a HotSync (Palm File Format Specification for entries,
-- bytes and ids; 200 databases are what this program takes).
use Rattle.std.specs.Prelude.{ℕ}

-- the databases that a handheld can have
abbrev pub most_databases : ℕ
most_databases = 200

-- the entries of a database
abbrev pub most_entries : ℕ
most_entries = 65535

-- the bytes of a record, a resource or a block
abbrev pub most_bytes : ℕ
most_bytes = 65500

-- the id of a record, a number of 24 bits
abbrev pub greatest_id : ℕ
greatest_id = 16777215
