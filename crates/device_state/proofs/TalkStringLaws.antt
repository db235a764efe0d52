-- Where a string ends in bytes that a slice can hold.
use Rattle.std.proofs.Common.{◌≡◌, ◌∙◌, ℕ, ◌+◌, ◌<◌, ◌^◌, List, ◌++◌, length, sym, ap, arith}
use Rattle.std.proofs.lemmas.List.{length-append}
use Rattle.device_state.specs.Strings.{string_text}
use Rattle.device_state.proofs.StringLaws.{length-string_text, string_text-injective}

-- bytes that begin with a string are longer than it, and than what stands behind it
pub length-string_text-append : (string rest : List ℕ) → length (string_text string ++ rest) ≡ 8 + length string + length rest
length-string_text-append string rest = omega (arith, length-append (string_text string) rest, length-string_text string)

pub string_end : (string other rest behind : List ℕ) → length (string_text string ++ rest) < 2 ^ 64
    → string_text string ++ rest ≡ string_text other ++ behind → (string ≡ other) × (rest ≡ behind)
string_end string other rest behind short same =
    let one = length-string_text-append string rest in
    let two = length-string_text-append other behind in
    string_text-injective string other rest behind (omega arith) (omega (arith, ap length same)) same

-- the string at the front of bytes is no other one, and what stands behind it is as short as the bytes
pub string_next : (string rest other behind : List ℕ) {bytes : List ℕ} → length bytes < 2 ^ 64 → bytes ≡ string_text string ++ rest
    → bytes ≡ string_text other ++ behind → (string ≡ other) × (rest ≡ behind) × (length rest < 2 ^ 64)
string_next string rest other behind short found is =
    let size = length-string_text-append string rest in
    let ends = string_end string other rest behind (omega (arith, ap length found)) (sym found ∙ is) in
    (ends.0, ends.1, omega (arith, ap length found))

-- what stands behind others is as short as all of them
pub rest_short : (front rest : List ℕ) {bytes : List ℕ} → bytes ≡ front ++ rest → length bytes < 2 ^ 64 → length rest < 2 ^ 64
rest_short front rest is short = omega (arith, ap length is, length-append front rest)
