-- The CRC byte by byte: what eight bits do to a value is what they do to its upper byte, and its lower byte moves up.
use Rattle.std.proofs.lemmas.Bool.Decides.{nat_tests}
use Rattle.std.proofs.lemmas.Grind.{common_steps}
use Rattle.std.proofs.Common.{◌≡◌, ℕ, zero, suc, ◌*◌, ◌<◌, ◌%◌, ◌/◌, Bool, nat_lt, if◌then◌else◌, List, map, slice_index_or, refl, sym, ap, ◌∙◌, arith}
use Rattle.std.specs.Int.Bits.{bit_xor, xor_zero_r}
use Rattle.std.proofs.lemmas.Nat.{xor_shr, xor_mod, xor_comm, shl-shr}
use Rattle.std.specs.List.{range_with_len}
use Rattle.std.proofs.lemmas.List.FromFn.{get_or-map-range_with_len}
use Rattle.slp_frames.specs.Crc.{crc_bit, crc_bits, crc_byte}
use Rattle.slp_frames.specs.declared.checksum.TheConstants.{BYTE_CRCS}

-- twice an exclusive or
xor_twice : (a b : ℕ) → bit_xor a b * 2 ≡ bit_xor (a * 2) (b * 2)
xor_twice a b = grind (arith, nat_tests, common_steps, xor_shr (a * 2) (b * 2) 1, shl-shr a 1, shl-shr b 1, xor_mod (a * 2) (b * 2) 1)

-- two numbers of two bytes with the same bytes
pub same_bytes : (a b : ℕ) → a / 256 ≡ b / 256 → a % 256 ≡ b % 256 → a ≡ b
same_bytes a b upper lower = omega (arith, upper, lower)

-- the same upper bit, the same side of the middle
same_half : (a b : ℕ) → a / 32768 ≡ b / 32768 → nat_lt a 0x8000 ≡ nat_lt b 0x8000
same_half a b same = grind arith

-- the same choice of the polynomial on both sides
choose : (low : Bool) {x : ℕ} (a b : ℕ) → x ≡ bit_xor a b
    → (if low then x else bit_xor x 0x1021) ≡ bit_xor (if low then a else bit_xor a 0x1021) b
choose low a b same = grind (arith, nat_tests, common_steps, xor_comm)

-- one bit, where the second number is so small that its double fits
bit_split : (a b : ℕ) → b < 0x8000 → crc_bit (bit_xor a b) ≡ bit_xor (crc_bit a) (b * 2)
unfolding crc_bit
bit_split a b small =
    let no_high : b / 32768 ≡ 0 = omega (arith, small) in
    let all_fits : b * 2 % 65536 ≡ b * 2 = omega (arith, small) in
    let high : bit_xor a b / 32768 ≡ a / 32768 = xor_shr a b 15 ∙ ap (bit_xor (a / 32768)) no_high ∙ xor_zero_r (a / 32768) in
    let doubled : bit_xor a b * 2 % 65536 ≡ bit_xor (a * 2 % 65536) (b * 2) =
    ap (λ (n : ℕ). n % 65536) (xor_twice a b) ∙ xor_mod (a * 2) (b * 2) 16 ∙ ap (bit_xor (a * 2 % 65536)) all_fits in
    ap (λ (low : Bool). if low then bit_xor a b * 2 % 65536 else bit_xor (bit_xor a b * 2 % 65536) 0x1021) (same_half (bit_xor a b) a high)
    ∙ choose (nat_lt a 0x8000) (a * 2 % 65536) (b * 2) doubled

-- a number moved up by so many bits, and that none is lost
abbrev moved_up : ℕ → ℕ → ℕ
moved_up zero b = b
moved_up (suc count) b = moved_up count (b * 2)

abbrev NoneLost : ℕ → ℕ → Type 0
NoneLost zero b = Unit {0}
NoneLost (suc count) b = (b < 0x8000) × NoneLost count (b * 2)

-- the bits of a byte
kept_of : (b : ℕ) → b < 256 → NoneLost 8 b
kept_of b few = grind arith

-- many bits: the second number moves up by as many
bits_split : (count a b : ℕ) → NoneLost count b → crc_bits count (bit_xor a b) ≡ bit_xor (crc_bits count a) (moved_up count b)
bits_split zero a b kept = refl
bits_split (suc count) a b kept = cc (bit_split a b kept.0, bits_split count (crc_bit a) (b * 2) kept.1)

-- a byte: the upper byte of the value goes with it through the eight bits, and the lower one moves up
pub crc_byte-split : (value byte : ℕ) → value < 65536 → byte < 256
    → crc_byte value byte ≡ bit_xor (value * 256 % 65536) (crc_byte 0 (bit_xor (value / 256) byte))
crc_byte-split value byte fits short =
    let x = bit_xor value (byte * 256) in
    let none : (n : ℕ) → n * 256 % 256 ≡ 0 = λ n. omega arith in
    let index = bit_xor (value / 256) byte in
    let low = value % 256 in
    let upper : x / 256 ≡ index = xor_shr value (byte * 256) 8 ∙ ap (bit_xor (value / 256)) (shl-shr byte 8) in
    let lower : x % 256 ≡ low = xor_mod value (byte * 256) 8 ∙ ap (bit_xor low) (none byte) ∙ xor_zero_r low in
    let no_upper : low / 256 ≡ 0 = omega arith in
    let lower_still : low % 256 ≡ low = omega arith in
    let few : low < 256 = omega arith in
    let kept : NoneLost 8 low = kept_of low few in
    let moved : moved_up 8 low ≡ value * 256 % 65536 = omega (arith, fits) in
    let whole = bit_xor (index * 256) low in
    let upper_too : whole / 256 ≡ index = xor_shr (index * 256) low 8 ∙ ap (λ (n : ℕ). bit_xor n (low / 256)) (shl-shr index 8) ∙ ap (bit_xor index) no_upper
    ∙ xor_zero_r index in
    let lower_too : whole % 256 ≡ low = xor_mod (index * 256) low 8 ∙ ap (λ (n : ℕ). bit_xor n (low % 256)) (none index) ∙ lower_still in
    let is : x ≡ whole = same_bytes x whole (upper ∙ sym upper_too) (lower ∙ sym lower_too) in
    ap (crc_bits 8) is ∙ bits_split 8 (index * 256) low kept ∙ xor_comm (crc_bits 8 (index * 256)) (moved_up 8 low)
    ∙ ap (λ (n : ℕ). bit_xor n (crc_bits 8 (index * 256))) moved

-- the table has the CRC of each byte
table_is : BYTE_CRCS ≡ map (crc_byte 0) (range_with_len 0 256)
unfolding crc_bit
table_is = refl

pub table_at : (byte : ℕ) → byte < 256 → slice_index_or BYTE_CRCS byte 0 ≡ crc_byte 0 byte
table_at byte short =
    ap (λ (table : List ℕ). slice_index_or table byte 0) table_is ∙ get_or-map-range_with_len (crc_byte 0) 0 256 byte byte 0 short (omega arith)
