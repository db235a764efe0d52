-- A bit of a number, as a mask tests it and as division finds it.
use Rattle.std.proofs.Common.{◌≡◌, ℕ, ◌+◌, ◌*◌, ◌/◌, ◌%◌, ◌^◌, ◌<◌, ◌≤◌, not, eqb, Bool, true, false, sym, ap, ◌∙◌, arith}
use Rattle.std.specs.Prelude.{bit_and, bit_or}
use Rattle.std.proofs.Math.Nat.{mod-lt}
use Rattle.std.proofs.lemmas.Bool.{cases_lt, ne_eqb}
use Rattle.std.proofs.lemmas.Nat.{and_block, and_le_r, and_mask, or_comm, or_disjoint, or_shifted, pow_pos, shr_split}
use Rattle.pdb_values.specs.declared.record.Record.{Record}
use Rattle.pdb_files.specs.Entries.{attributes_of, bit_where}

at_most : (flag : Bool) (weight : ℕ) → bit_where flag weight ≤ weight
at_most true weight = omega arith
at_most false weight = omega arith

-- a bit above a number, where a flag is set
or_flag : (k low : ℕ) (flag : Bool) → low < 2 ^ k → bit_or low (bit_where flag (2 ^ k)) ≡ bit_where flag (2 ^ k) + low
or_flag k low true lt =
    let one : 1 * 2 ^ k ≡ 2 ^ k = omega arith in
    cc (or_comm low (2 ^ k), one, or_shifted 1 k low lt)
or_flag k low false lt = grind (arith, and_le_r, or_disjoint)

-- the attributes of a record, put together bit by bit
pub attributes_by_bits : (item : Record) → item.content.category < 16
    → bit_or (bit_or (bit_or (bit_or item.content.category (bit_where item.content.secret 16)) (bit_where item.busy 32)) (bit_where item.dirty 64))
    (bit_where item.deleted 128) ≡ attributes_of item
attributes_by_bits item small =
    let secret = or_flag 4 item.content.category item.content.secret small in
    let a = at_most item.content.secret 16 in
    let busy = or_flag 5 (bit_where item.content.secret 16 + item.content.category) item.busy (omega arith) in
    let b = at_most item.busy 32 in
    let dirty = or_flag 6 (bit_where item.busy 32 + (bit_where item.content.secret 16 + item.content.category)) item.dirty (omega arith) in
    let d = at_most item.dirty 64 in
    let deleted = or_flag 7 (bit_where item.dirty 64 + (bit_where item.busy 32 + (bit_where item.content.secret 16 + item.content.category))) item.deleted
    (omega arith) in
    rw (secret, busy, dirty, deleted) (omega arith)

-- what a mask of one bit leaves
masked : (k n : ℕ) → bit_and n (2 ^ k) ≡ n / 2 ^ k % 2 * 2 ^ k
masked k n =
    let some = pow_pos k in
    let parts = shr_split n k in
    let mask : 1 * 2 ^ k + 0 ≡ 2 ^ k = omega arith in
    let block = and_block k (n / 2 ^ k) 1 (n % 2 ^ k) 0 (mod-lt n some) some in
    let low = and_le_r (n % 2 ^ k) 0 in
    let high = and_mask (n / 2 ^ k) 1 in
    (λ i. bit_and (sym parts i) (sym mask i)) ∙ block ∙ ap (λ bit. bit * 2 ^ k + bit_and (n % 2 ^ k) 0) high ∙ omega arith

-- a test by the mask of one bit
pub bit_tested : (k n : ℕ) → not (eqb (bit_and n (2 ^ k)) 0) ≡ eqb (n / 2 ^ k % 2) 1
bit_tested k n = grind (arith, mod-lt, masked, pow_pos, cases_lt, ne_eqb)
