-- A mask over bytes, one byte more at a time.
use Rattle.std.proofs.Common.{◌≡◌, ℕ, suc, ◌+◌, ◌<◌, List, [], ◌∷◌, ◌++◌, length, take, get_or, bit_xor, refl, sym, ap, ◌∙◌, append_assoc, arith}
use Rattle.std.proofs.Math.Seq.{take-suc}
use Rattle.std.proofs.lemmas.List.{length-take}
use Rattle.std.specs.Int.Bits.{xor_zero_r}
use Rattle.trace_text.specs.Fates.{xored}

pub none_left : (mask : List ℕ) → xored mask [] ≡ []
none_left [] = refl
none_left (x ∷ mask) = refl

xored_push : (mask bytes : List ℕ) (byte : ℕ) → xored mask (bytes ++ byte ∷ []) ≡ xored mask bytes ++ bit_xor byte (get_or mask (length bytes) 0) ∷ []
xored_push [] bytes byte = ap (λ b. bytes ++ b ∷ []) (sym (xor_zero_r byte))
xored_push (x ∷ mask) [] byte = ap (λ s. bit_xor byte x ∷ s) (none_left mask)
xored_push (x ∷ mask) (first ∷ bytes) byte = ap (λ s. bit_xor first x ∷ s) (xored_push mask bytes byte)

pub length-xored : (mask bytes : List ℕ) → length (xored mask bytes) ≡ length bytes
length-xored [] bytes = refl
length-xored (x ∷ mask) [] = refl
length-xored (x ∷ mask) (byte ∷ bytes) = ap suc (length-xored mask bytes)

pub xored_more : (front mask bytes : List ℕ) {place byte : ℕ} → place < length bytes → byte ≡ bit_xor (get_or bytes place 0) (get_or mask place 0)
    → (front ++ xored mask (take place bytes)) ++ byte ∷ [] ≡ front ++ xored mask (take (place + 1) bytes)
xored_more front mask bytes {place} {byte} inside is =
    let len : length (take place bytes) ≡ place = omega (arith, length-take place bytes) in
    let next : suc place ≡ place + 1 = omega arith in
    let one = xored_push mask (take place bytes) (get_or bytes place 0) in
    let step : xored mask (take (suc place) bytes) ≡ xored mask (take place bytes) ++ byte ∷ [] =
    ap (λ s. xored mask s) (take-suc bytes place 0 inside) ∙ one
    ∙ ap (λ n. xored mask (take place bytes) ++ bit_xor (get_or bytes place 0) (get_or mask n 0) ∷ []) len
    ∙ ap (λ b. xored mask (take place bytes) ++ b ∷ []) (sym is) in
    append_assoc front (xored mask (take place bytes)) (byte ∷ []) ∙ ap (λ s. front ++ s) (sym step) ∙ ap (λ n. front ++ xored mask (take n bytes)) next
