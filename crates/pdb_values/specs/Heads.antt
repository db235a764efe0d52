-- The attributes of a database (Palm File Format Specification, header of a database).
use Rattle.std.specs.Prelude.{ℕ, ◌%◌, ◌==◌, Bool, bit_and, not}

-- a number has this bit
abbrev pub has_bit : ℕ → ℕ → Bool
has_bit bit number = not (bit_and number bit == 0)

-- bit 0x0001 of the attributes: the database holds resources, and not records
abbrev pub holds_resources : ℕ → Bool
holds_resources attributes = attributes % 2 == 1

-- bit 0x0002: the database is not to be changed
abbrev pub is_read_only : ℕ → Bool
is_read_only attributes = has_bit 0x0002 attributes

-- bit 0x0080: the database is a stream of bytes
abbrev pub is_stream : ℕ → Bool
is_stream attributes = has_bit 0x0080 attributes
