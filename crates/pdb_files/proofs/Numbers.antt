-- The bytes of a number that was read are those that it was read from.
use Rattle.std.proofs.Common.{◌≡◌, ℕ, zero, suc, ◌+◌, ◌*◌, ◌^◌, ◌<◌, ◌≤◌, ◌/◌, List, [], ◌∷◌, ◌++◌, length, get_or, take, drop, refl, sym, ap, ◌∙◌, arith}
use Rattle.std.specs.Int.{byte_at, bytes_high_first}
use Rattle.std.proofs.Math.Nat.{mod-lt}
use Rattle.std.proofs.lemmas.Bool.{cases_lt}
use Rattle.std.proofs.lemmas.Nat.{same_from_place}
use Rattle.std.proofs.lemmas.List.{append-nil, drop-drop, get_or-drop, get_or-take, get_or_past, drop_at, take_at, length-drop, length-take, take-append-drop}
use Rattle.byteorder.specs.Endian.{big_bytes, big_from}
use Rattle.byteorder.specs.Numbers.{big_from-cons, big_from-lt, big_from-take, big_number-reads_back, length-bytes_high_first}
use Rattle.pdb_files.specs.Fields.{number_at, code_at}

-- each is a byte
abbrev pub IsBytes : List ℕ → Type 0
IsBytes bytes = (i : ℕ) → get_or bytes i 0 < 256

pub IsBytes-drop : (n : ℕ) (bytes : List ℕ) → IsBytes bytes → IsBytes (drop n bytes)
IsBytes-drop n bytes h i = rw get_or-drop (h (n + i))

IsBytes-take : (n : ℕ) (bytes : List ℕ) → IsBytes bytes → IsBytes (take n bytes)
IsBytes-take n bytes h i = grind (arith, cases_lt, get_or-take, get_or_past, length-take)

IsBytes-rest : (byte : ℕ) (bytes : List ℕ) → IsBytes (byte ∷ bytes) → IsBytes bytes
IsBytes-rest byte bytes h i = h (suc i)

byte_at-lt : (k n : ℕ) → byte_at k n < 256
byte_at-lt zero n = mod-lt n (omega arith)
byte_at-lt (suc k) n = mod-lt (n / 256 ^ suc k) (omega arith)

pub IsBytes-big_bytes : (n x : ℕ) → IsBytes (bytes_high_first n x)
IsBytes-big_bytes zero x i = omega arith
IsBytes-big_bytes (suc n) x zero = byte_at-lt n x
IsBytes-big_bytes (suc n) x (suc i) = IsBytes-big_bytes n x i

-- one number, one row of bytes
same_bytes : (n : ℕ) (xs ys : List ℕ) → length xs ≡ n → length ys ≡ n → IsBytes xs → IsBytes ys → big_from 0 n xs ≡ big_from 0 n ys → xs ≡ ys
same_bytes zero [] [] p q h k e = refl
same_bytes zero (x ∷ xs) ys p q h k e = absurd (omega arith)
same_bytes zero [] (y ∷ ys) p q h k e = absurd (omega arith)
same_bytes (suc n) [] ys p q h k e = absurd (omega arith)
same_bytes (suc n) (x ∷ xs) [] p q h k e = absurd (omega arith)
same_bytes (suc n) (x ∷ xs) (y ∷ ys) p q h k e =
    let tails = big_from-lt 0 n xs (IsBytes-rest x xs h) in
    let tails' = big_from-lt 0 n ys (IsBytes-rest y ys k) in
    let whole : x * 256 ^ n + big_from 0 n xs ≡ y * 256 ^ n + big_from 0 n ys =
    ap (λ r. x * 256 ^ n + r) (sym (big_from-cons 0 n x xs)) ∙ e ∙ ap (λ r. y * 256 ^ n + r) (big_from-cons 0 n y ys) in
    let both = same_from_place x (big_from 0 n xs) y (big_from 0 n ys) (256 ^ n) tails tails' whole in
    let rest = same_bytes n xs ys (omega arith) (omega arith) (IsBytes-rest x xs h) (IsBytes-rest y ys k) both.1 in
    λ i. both.0 i ∷ rest i

-- what stands behind a field
pub behind : (place size : ℕ) (bytes field rest : List ℕ) → drop place bytes ≡ field ++ rest → length field ≡ size → drop (place + size) bytes ≡ rest
behind place size bytes field rest at len = cc (drop-drop size place bytes, drop_at field rest size len)

-- a number that was read, and what stands behind it
pub cut_number : (size place : ℕ) (bytes : List ℕ)
    → IsBytes bytes → place + size ≤ length bytes → drop place bytes ≡ big_bytes size (number_at size place bytes) ++ drop (place + size) bytes
unfolding number_at
cut_number size place bytes fits le =
    let field = take size (drop place bytes) in
    let len : length field ≡ size = omega (arith, length-take size (drop place bytes), length-drop place bytes) in
    let number : big_from 0 size field ≡ big_from 0 size (drop place bytes) = big_from-take 0 size size (drop place bytes) (omega arith) in
    let small = big_from-lt 0 size (drop place bytes) (IsBytes-drop place bytes fits) in
    let again : big_from 0 size (bytes_high_first size (big_from 0 size (drop place bytes))) ≡ big_from 0 size (drop place bytes) =
    ap (big_from 0 size) (sym (append-nil (bytes_high_first size (big_from 0 size (drop place bytes)))))
    ∙ big_number-reads_back size (big_from 0 size (drop place bytes)) [] small in
    let same : bytes_high_first size (big_from 0 size (drop place bytes)) ≡ field =
    same_bytes size _ field (length-bytes_high_first size _) len
    (IsBytes-big_bytes size _) (IsBytes-take size (drop place bytes) (IsBytes-drop place bytes fits)) (again ∙ sym number) in
    sym (take-append-drop size (drop place bytes))
    ∙ ap (λ rest. field ++ rest) (drop-drop size place bytes) ∙ ap (λ front. front ++ drop (place + size) bytes) (sym same)

-- a number that was written is read
pub number_at-written : (size place number : ℕ) (bytes rest : List ℕ)
    → drop place bytes ≡ big_bytes size number ++ rest → number < 256 ^ size → number_at size place bytes ≡ number
unfolding number_at
number_at-written size place number bytes rest at lt = cc (big_number-reads_back size number rest lt)

-- a number that is read fits its bytes
pub number_at-fits : (size place : ℕ) (bytes : List ℕ) → IsBytes bytes → number_at size place bytes < 256 ^ size
unfolding number_at
number_at-fits size place bytes fits = big_from-lt 0 size (drop place bytes) (IsBytes-drop place bytes fits)

-- four bytes, and what stands behind them
pub cut_code : (place : ℕ) (bytes : List ℕ) → drop place bytes ≡ code_at place bytes ++ drop (place + 4) bytes
unfolding code_at
cut_code place bytes = cc (take-append-drop 4 (drop place bytes), drop-drop 4 place bytes)

pub length-code_at : (place : ℕ) (bytes : List ℕ) → place + 4 ≤ length bytes → length (code_at place bytes) ≡ 4
unfolding code_at
length-code_at place bytes le = grind (arith, length-take, length-drop)

pub code_at-written : (place : ℕ) (bytes code rest : List ℕ) → drop place bytes ≡ code ++ rest → length code ≡ 4 → code_at place bytes ≡ code
unfolding code_at
code_at-written place bytes code rest at len = ap (take 4) at ∙ take_at code rest 4 len
