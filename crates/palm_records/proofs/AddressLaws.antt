-- The fields of an address, one after the other.
use Rattle.std.proofs.Common.{◌≡◌, ◌∙◌, ℕ, suc, ◌+◌, ◌-◌, ◌/◌, ◌<◌, ◌≤◌, List, [], ◌∷◌, ◌++◌, length, Option, None, Some, false, true, Result, Ok, Err, refl, sym, arith}
use Rattle.std.proofs.lemmas.Bool.Decides.{nat_tests}
use Rattle.std.proofs.lemmas.List.{length-drop, take_all}
use Rattle.std.specs.Prelude.{drop, nat_le, nat_lt, take}
use Rattle.palm_records.specs.Addresses.{address_in, are_kinds, field_bits, field_in, fields_at, kinds_of, phone_word, shown_of}

-- a field was found
pub goes_on : (count i bits : ℕ) (before : List (Option (List ℕ))) (bytes : List ℕ) (field : Option (List ℕ)) (rest : List ℕ)
    {total : Result (List (Option (List ℕ))) ℕ} → i < count → field_in bits bytes ≡ Some (field, rest)
    → fields_at (count - i) bits before bytes ≡ total → fields_at (count - (i + 1)) (bits / 2) (before ++ field ∷ []) rest ≡ total
unfolding fields_at
goes_on count i bits before bytes field rest less found so_far =
    let left : count - i ≡ suc (count - (i + 1)) = omega arith in
    let one : fields_at (count - i) bits before bytes ≡ fields_at (count - (i + 1)) (bits / 2) (before ++ field ∷ []) rest = rw (left, found) refl in
    sym one ∙ so_far

-- a string has no end
pub stops : (count i bits : ℕ) (before : List (Option (List ℕ))) (bytes : List ℕ) {total : Result (List (Option (List ℕ))) ℕ} → i < count
    → field_in bits bytes ≡ None → fields_at (count - i) bits before bytes ≡ total → total ≡ Err (length bytes)
unfolding fields_at
stops count i bits before bytes less none so_far =
    let left : count - i ≡ suc (count - (i + 1)) = omega arith in
    let one : fields_at (count - i) bits before bytes ≡ Err (length bytes) = rw (left, none) refl in
    sym so_far ∙ one

-- all were found
pub is_done : (count i bits : ℕ) (before : List (Option (List ℕ))) (bytes : List ℕ) {total : Result (List (Option (List ℕ))) ℕ} → count ≤ i
    → fields_at (count - i) bits before bytes ≡ total → total ≡ Ok before
unfolding fields_at
is_done count i bits before bytes past so_far =
    let left : count - i ≡ 0 = omega arith in
    let one : fields_at (count - i) bits before bytes ≡ Ok before = rw left refl in
    sym so_far ∙ one

-- a phone has no kind
pub no_kind : (bytes : List ℕ) {fields : List (Option (List ℕ))} → 9 ≤ length bytes → field_bits bytes < 524288
    → fields_at 19 (field_bits bytes) [] (drop 9 bytes) ≡ Ok fields → are_kinds (field_bits bytes) (phone_word bytes) ≡ false → address_in bytes ≡ Err 0
no_kind bytes long low found kinds =
    let has : nat_lt (length bytes) 9 ≡ false = grind (arith, nat_tests) in
    let few : nat_le 524288 (field_bits bytes) ≡ false = grind (arith, nat_tests) in
    rw (has, few, found, kinds) refl

-- all is in the form
pub is_address : (bytes : List ℕ) {fields : List (Option (List ℕ))} → 9 ≤ length bytes → field_bits bytes < 524288
    → fields_at 19 (field_bits bytes) [] (drop 9 bytes) ≡ Ok fields → are_kinds (field_bits bytes) (phone_word bytes) ≡ true
    → address_in bytes ≡ Ok (record { shown = shown_of (phone_word bytes); kinds = kinds_of (phone_word bytes); fields = fields })
is_address bytes long low found kinds =
    let has : nat_lt (length bytes) 9 ≡ false = grind (arith, nat_tests) in
    let few : nat_le 524288 (field_bits bytes) ≡ false = grind (arith, nat_tests) in
    rw (has, few, found, kinds) refl

-- what is behind a place, as it is lent
pub all_behind : (place : ℕ) (bytes : List ℕ) → take (length bytes - place) (drop place bytes) ≡ drop place bytes
all_behind place bytes = take_all (length bytes - place) (drop place bytes) (omega (arith, length-drop place bytes))
