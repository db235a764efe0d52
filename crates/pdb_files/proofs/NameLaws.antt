-- The name in the field of a header.
use Rattle.std.proofs.Common.{◌≡◌, ℕ, suc, ◌+◌, ◌<◌, ◌≤◌, Bool, true, false, cond, List, [], ◌∷◌, ◌++◌, length, get_or, take, drop, Some, None, refl}
use Rattle.std.proofs.Common.{arith}
use Rattle.std.specs.Prelude.{position}
use Rattle.std.specs.List.{prefix_len}
use Rattle.std.proofs.lemmas.Bool.{le-ltb, lt-ltb, ltb-false, eqb-true}
use Rattle.std.proofs.lemmas.List.{drop_more, get_or-take, length-append, length-take, take-append-drop}
use Rattle.std.proofs.lemmas.List.Quantifiers.{position-Some}
use Rattle.pdb_values.specs.Names.{IsName}
use Rattle.pdb_files.specs.Headers.{is_zero}

-- a front that passes whole, and a first item that doesn't
prefix_len-front : (q : ℕ → Bool) (xs : List ℕ) (y : ℕ) (ys : List ℕ) → length xs ≤ prefix_len q xs → q y ≡ false → prefix_len q (xs ++ y ∷ ys) ≡ length xs
prefix_len-front q [] y ys whole stops = rw stops refl
prefix_len-front q (x ∷ xs) y ys whole stops =
    elim (q x) as (λ b. suc (length xs) ≤ cond b (1 + prefix_len q xs) 0 → cond b (1 + prefix_len q (xs ++ y ∷ ys)) 0 ≡ suc (length xs)) [
      | true ↦ λ h. omega (arith, prefix_len-front q xs y ys (omega arith) stops)
      | false ↦ λ h. absurd (omega arith)
    ] whole

-- a list that passes whole
prefix_len-whole : (q : ℕ → Bool) (xs : List ℕ) → ((k : ℕ) → k < length xs → q (get_or xs k 0) ≡ true) → prefix_len q xs ≡ length xs
prefix_len-whole q [] each = refl
prefix_len-whole q (x ∷ xs) each = rw (each 0 (omega arith)) (omega (arith, prefix_len-whole q xs (λ k lt. each (suc k) (omega arith))))

some_or_none : (b : Bool) (n : ℕ) → cond b (Some n) None ≡ None → b ≡ false
some_or_none true n e = absurd cc
some_or_none false n e = refl

-- where a name ends that a zero follows
pub position-zero : (name after : List ℕ) → position is_zero name ≡ None → position is_zero (name ++ 0 ∷ after) ≡ Some (length name)
position-zero name after nonzero = grind (arith, ltb-false, some_or_none, prefix_len-front, lt-ltb, length-append)

none_from_whole : (xs : List ℕ) → ((k : ℕ) → k < length xs → is_zero (get_or xs k 0) ≡ false) → position is_zero xs ≡ None
none_from_whole xs each = grind (arith, prefix_len-whole, le-ltb)

-- the bytes before a zero that isn't the first byte of the field are a name
pub name_before : (field : List ℕ) (place : ℕ) → length field ≡ 32 → position is_zero field ≡ Some (suc place) → IsName (take (suc place) field)
name_before field place len at =
    let found = position-Some is_zero field (suc place) 0 at in
    let size : length (take (suc place) field) ≡ suc place = omega (arith, length-take (suc place) field, found.0) in
    record {
      some = omega arith;
      short = omega (arith, found.0);
      nonzero = none_from_whole (take (suc place) field) (λ k lt. rw (get_or-take (suc place) field k 0 (omega arith)) (found.2 k (omega arith)));
    }

-- the field around that zero
pub field_around : (field : List ℕ) (place : ℕ) → position is_zero field ≡ Some place → field ≡ take place field ++ 0 ∷ drop (place + 1) field
field_around field place at =
    let found = position-Some is_zero field place 0 at in
    let zero_there : get_or field place 0 ≡ 0 = eqb-true _ _ found.1 in
    cc (take-append-drop place field, drop_more field place 0 found.0)
