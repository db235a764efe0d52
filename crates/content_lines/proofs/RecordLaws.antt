-- What properties say of a record is told, and has no line breaks.
use Rattle.std.proofs.lemmas.List.{append_cancel_left, append_cancel_right}
use Rattle.std.proofs.Math.Nat.{mod-lt}
use Rattle.std.proofs.Common.{arith, ◌≡◌, ◌∙◌, ◌<◌, ◌/◌, ◌%◌, ap, refl, sym, ℕ, zero, suc, Bool, true, false, List, ◌++◌, get_or}
use Rattle.std.specs.Prelude.{codes}
use Rattle.std.specs.Int.{bytes_high_first}
use Rattle.hex.specs.Hex.{decode_of, encode_lower, lower_digits}
use Rattle.hex.proofs.HexLemmas.{decode_of-encode_lower, length-encode_with}
use Rattle.palm_records.proofs.CharacterLaws.{append_parts}
use Rattle.content_lines.specs.Lines.{has_no_break}
use Rattle.content_lines.specs.Properties.{IsBytes, PropertyValue}
use Rattle.content_lines.specs.Records.{class_properties, id_digits, id_limit, uid, unread_bytes, unread_name}
use Rattle.content_lines.proofs.ByteLaws.{plain-encode_lower}
use Rattle.content_lines.proofs.ValueLaws.{unbroken-append, unbroken-plain}

small_bytes : (n : ℕ) → IsBytes (bytes_high_first 3 n)
small_bytes n zero = mod-lt (n / 65536) (omega arith)
small_bytes n (suc zero) = mod-lt (n / 256) (omega arith)
small_bytes n (suc (suc zero)) = mod-lt n (omega arith)
small_bytes n (suc (suc (suc i))) = omega arith

-- ---- no line breaks

pub unbroken-hex : (bytes : List ℕ) → IsBytes bytes → has_no_break (encode_lower bytes) ≡ true
unbroken-hex bytes h = unbroken-plain (encode_lower bytes) (plain-encode_lower bytes h)

pub unbroken-uid : (id : ℕ) (stem : List ℕ) → has_no_break stem ≡ true → has_no_break (uid id stem).value ≡ true
unfolding has_no_break
unbroken-uid id stem h =
    unbroken-append (id_digits id) (codes "." ++ (stem ++ codes "@palm")) (unbroken-hex (bytes_high_first 3 id) (small_bytes id))
    (unbroken-append (codes ".") (stem ++ codes "@palm") refl (unbroken-append stem (codes "@palm") h refl))

pub unbroken-unread_name : (name : List ℕ) (id : ℕ) → has_no_break (unread_name name id).value ≡ true
unfolding has_no_break
unbroken-unread_name name id =
    unbroken-append (codes "(unreadable record ") (id_digits id ++ codes ")") refl
    (unbroken-append (id_digits id) (codes ")") (unbroken-hex (bytes_high_first 3 id) (small_bytes id)) refl)

-- ---- ids and bytes

hex_injective : (a b : List ℕ) → IsBytes a → IsBytes b → encode_lower a ≡ encode_lower b → a ≡ b
hex_injective a b h k e = cc (sym (decode_of-encode_lower a h) ∙ (ap decode_of e ∙ decode_of-encode_lower b k))

pub unread_bytes_injective : (a b : List ℕ) → IsBytes a → IsBytes b → unread_bytes a ≡ unread_bytes b → a ≡ b
unread_bytes_injective a b h k e = hex_injective a b h k (ap (λ (p : PropertyValue). p.value) e)

same_number : (i j : ℕ) → i < 0x1000000 → j < 0x1000000 → bytes_high_first 3 i ≡ bytes_high_first 3 j → i ≡ j
same_number i j small_i small_j e =
    let high : i / 65536 % 256 ≡ j / 65536 % 256 = ap (λ l. get_or l 0 0) e in
    let middle : i / 256 % 256 ≡ j / 256 % 256 = ap (λ l. get_or l 1 0) e in
    let low : i % 256 ≡ j % 256 = ap (λ l. get_or l 2 0) e in
    omega arith

pub uid_injective : (i j : ℕ) (a b : List ℕ) → i < id_limit → j < id_limit → uid i a ≡ uid j b → (i ≡ j) × (a ≡ b)
uid_injective i j a b small_i small_j e =
    let tail_a = codes "." ++ (a ++ codes "@palm") in
    let tail_b = codes "." ++ (b ++ codes "@palm") in
    let size_i = length-encode_with lower_digits (bytes_high_first 3 i) in
    let size_j = length-encode_with lower_digits (bytes_high_first 3 j) in
    let values : id_digits i ++ tail_a ≡ id_digits j ++ tail_b = ap (λ (p : PropertyValue). p.value) e in
    let both = append_parts (id_digits i) (id_digits j) tail_a tail_b (omega (arith, size_i, size_j)) values in
    let bytes = hex_injective (bytes_high_first 3 i) (bytes_high_first 3 j) (small_bytes i) (small_bytes j) both.0 in
    let stems = append_cancel_left (codes ".") (a ++ codes "@palm") (b ++ codes "@palm") both.1 in
    (same_number i j small_i small_j bytes, append_cancel_right a b (codes "@palm") stems)

-- ---- marks

pub class_injective : (p q : Bool) → class_properties p ≡ class_properties q → p ≡ q
class_injective true true e = refl
class_injective true false e = cc
class_injective false true e = cc
class_injective false false e = refl
