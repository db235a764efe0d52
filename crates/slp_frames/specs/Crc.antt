-- The CRC of a packet, bit by bit: CRC-16 with polynomial 0x1021, initial value 0 and no
-- reflection, as pilot-link computes it.
use Rattle.std.specs.Prelude.{ℕ, zero, suc, ◌*◌, ◌%◌, List, fold, nat_lt, if◌then◌else◌, bit_xor}

-- the value after one bit: its double modulo 65,536, with 0x1021 xored in where bit 15 was set
-- before
unfoldable pub crc_bit : ℕ → ℕ
crc_bit value =
    if nat_lt value 0x8000 then value * 2 % 65536 else bit_xor (value * 2 % 65536) 0x1021

-- the value after so many bits
abbrev pub crc_bits : ℕ → ℕ → ℕ
crc_bits zero value = value
crc_bits (suc count) value = crc_bits count (crc_bit value)

-- the value after a byte, which is xored into the upper eight bits
abbrev pub crc_byte : ℕ → ℕ → ℕ
crc_byte value byte = crc_bits 8 (bit_xor value (byte * 256))

-- the CRC of these bytes
unfoldable pub crc_of : List ℕ → ℕ
crc_of bytes = fold crc_byte 0 bytes
