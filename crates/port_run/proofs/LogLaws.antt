-- The lines of what was said and heard.
use Rattle.std.proofs.Common.{◌≡◌, ◌≤◌, ℕ, zero, suc, List, [], ◌∷◌, length, take, refl, arith}

-- a list without so many elements
pub take-short : (n : ℕ) (bytes : List ℕ) → length bytes ≤ n → take n bytes ≡ bytes
take-short zero [] le = refl
take-short (suc n) [] le = refl
take-short zero (x ∷ xs) le = absurd (omega arith)
take-short (suc n) (x ∷ xs) le = let rest = take-short n xs (omega arith) in grind arith
