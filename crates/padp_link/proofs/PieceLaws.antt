-- How many pieces a message has, what flags they bear, and which bytes they have.
use Rattle.std.proofs.lemmas.Bool.Decides.{nat_tests}
use Rattle.std.proofs.lemmas.Grind.{common_steps}
use Rattle.std.proofs.Common.{◌≡◌, ℕ, zero, suc, ◌+◌, ◌-◌, ◌*◌, ◌<◌, ◌≤◌, min, Bool, true, cond, not, ◌||◌, nat_eq, bit_and, List, [], ◌∷◌, ◌++◌, length, take}
use Rattle.std.proofs.Common.{drop, map, refl, sym, ap, ◌∙◌, arith, inl, inr}
use Rattle.std.specs.List.{range_with_len}
use Rattle.std.proofs.lemmas.Bool.{cases_lt, eqb-true, agree_below_at, or_cases, not-true, both_ways}
use Rattle.std.proofs.lemmas.List.{take_all, length-drop, drop-drop}
use Rattle.padp_link.specs.FragmentText.{FragmentValue, has_flag}
use Rattle.padp_link.specs.Pieces.{piece_count, piece_of, fragment_of, fragments}
use Rattle.padp_link.specs.Collecting.{taken_pieces}
use Rattle.padp_link.specs.Receivers.{bytes_of}

-- ---- how many

pub count_more : (size number : ℕ) → 1024 * number < size → number < piece_count size
count_more size number inside = omega arith

pub count_inside : (size number : ℕ) → 0 < number → number < piece_count size → 1024 * number < size
count_inside size number later below = omega arith

-- ---- flags

pub flag_first : (first last : Bool) → has_flag 128 (cond first 128 0 + cond last 64 0) ≡ first
flag_first first last = grind arith

pub flag_last : (first last : Bool) → has_flag 64 (cond first 128 0 + cond last 64 0) ≡ last
flag_last first last = grind arith

pub flags_clear : (first last : Bool) → nat_eq (bit_and (cond first 128 0 + cond last 64 0) 63) 0 ≡ true
flags_clear first last = grind arith

-- the flags of a data fragment are these two alone
pub flags_are : (flags : ℕ) → flags < 256 → nat_eq (bit_and flags 63) 0 ≡ true → flags ≡ cond (has_flag 128 flags) 128 0 + cond (has_flag 64 flags) 64 0
flags_are flags byte clear =
    let test = agree_below_at (λ flags. not (nat_eq (bit_and flags 63) 0) || nat_eq flags (cond (has_flag 128 flags) 128 0 + cond (has_flag 64 flags) 64 0))
    (λ flags. true) 256 flags refl byte in
    elim (or_cases (not (nat_eq (bit_and flags 63) 0)) (nat_eq flags (cond (has_flag 128 flags) 128 0 + cond (has_flag 64 flags) 64 0)) test) [
      | inl strange ↦ absurd (both_ways _ (not-true _ strange) clear)
      | inr same ↦ eqb-true _ _ same
    ]

-- ---- bytes

pub part_is : (size place : ℕ) (bytes : List ℕ) → length bytes ≤ size → take (min (size - place) 1024) (drop place bytes) ≡ take 1024 (drop place bytes)
part_is size place bytes short = elim (cases_lt (size - place) 1024) [
  | inl few ↦ take_all _ _ (omega (arith, length-drop place bytes)) ∙ sym (take_all 1024 (drop place bytes) (omega (arith, length-drop place bytes)))
  | inr many ↦ (let e : min (size - place) 1024 ≡ 1024 = omega arith in ap (λ (n : ℕ). take n (drop place bytes)) e)
]

take-add : (m n : ℕ) (xs : List ℕ) → take m xs ++ take n (drop m xs) ≡ take (m + n) xs
take-add zero n xs = let e : 0 + n ≡ n = omega arith in ap (λ (k : ℕ). take k xs) (sym e)
take-add (suc m) n [] = grind (arith, nat_tests, common_steps)
take-add (suc m) n (x ∷ xs) = let e : suc m + n ≡ suc (m + n) = omega arith in rw e (ap (λ (s : List ℕ). x ∷ s) (take-add m n xs))

-- the bytes of so many pieces from one on
pub bytes_from : (size from count : ℕ) (bytes : List ℕ) → length bytes ≤ size
    → bytes_of (map (λ number. fragment_of bytes (piece_of 0 size number)) (range_with_len from count)) ≡ take (1024 * count) (drop (1024 * from) bytes)
bytes_from size from zero bytes short = refl
bytes_from size from (suc count) bytes short =
    let later = bytes_from size (from + 1) count bytes short in
    let place : 1024 * (from + 1) ≡ 1024 * from + 1024 = omega arith in
    let front = part_is size (1024 * from) bytes short in
    let rest : drop (1024 * (from + 1)) bytes ≡ drop 1024 (drop (1024 * from) bytes) = ap (λ (n : ℕ). drop n bytes) place
    ∙ sym (drop-drop 1024 (1024 * from) bytes) in
    let all : 1024 + 1024 * count ≡ 1024 * suc count = omega arith in
    ap (λ (s : List ℕ). s ++ bytes_of (map (λ number. fragment_of bytes (piece_of 0 size number)) (range_with_len (from + 1) count))) front
    ∙ ap (λ (s : List ℕ). take 1024 (drop (1024 * from) bytes) ++ s) (later ∙ ap (λ (s : List ℕ). take (1024 * count) s) rest)
    ∙ take-add 1024 (1024 * count) (drop (1024 * from) bytes)
    ∙ ap (λ (n : ℕ). take n (drop (1024 * from) bytes)) all

pub bytes_of-taken : (size count : ℕ) (bytes : List ℕ) → length bytes ≤ size → bytes_of (taken_pieces size count bytes) ≡ take (1024 * count) bytes
bytes_of-taken size count bytes short = grind (arith, bytes_from)

-- the fragments of a message are all of its pieces
pub fragments_are : (id : ℕ) (message : List ℕ) → fragments id message ≡ taken_pieces (length message) (piece_count (length message)) message
fragments_are id message = go 0 (piece_count (length message)) where
  go : (from count : ℕ)
      → map (fragment_of message) (map (piece_of id (length message)) (range_with_len from count))
      ≡ map (λ number. fragment_of message (piece_of 0 (length message) number)) (range_with_len from count)
  go from zero = refl
  go from (suc count) = ap (λ (later : List FragmentValue). fragment_of message (piece_of id (length message) from) ∷ later) (go (from + 1) count)
