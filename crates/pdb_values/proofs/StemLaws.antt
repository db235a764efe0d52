-- Stems are one to one: two names with one stem are equal.
use Rattle.std.proofs.lemmas.Grind.{common_steps}
use Rattle.std.proofs.Common.{◌≡◌, ℕ, ◌/◌, ◌%◌, Bool, true, false, List, [], ◌∷◌, ◌++◌, refl, arith}
use Rattle.std.proofs.lemmas.Bool.Decides.{nat_tests}
use Rattle.pdb_values.specs.Stems.{hex_digit, is_plain, stem_byte, stem_of}

-- what stands for a byte: itself, or its escape
written : Bool → ℕ → List ℕ
written true byte = byte ∷ []
written false byte = 37 ∷ hex_digit (byte / 16) ∷ hex_digit (byte % 16) ∷ []

-- what stands for two bytes at the head of one text stands for one byte
same_head : (p q : Bool) (a b : ℕ) (s t : List ℕ) → is_plain a ≡ p → is_plain b ≡ q → written p a ++ s ≡ written q b ++ t → (a ≡ b) × (s ≡ t)
unfolding written
same_head true true a b s t pa pb e = (cc, cc)
same_head true false a b s t pa pb e = cc
same_head false true a b s t pa pb e = cc
same_head false false a b s t pa pb e = grind (arith, nat_tests, common_steps)

stem_byte-written : (byte : ℕ) → stem_byte byte ≡ written (is_plain byte) byte
unfolding stem_byte written
stem_byte-written byte = grind arith

not_nothing : (p : Bool) (byte : ℕ) (s : List ℕ) → written p byte ++ s ≡ [] → ⊥
unfolding written
not_nothing p byte s e = grind arith

-- two names with one stem are equal
pub stem_of_injective : (a b : List ℕ) → stem_of a ≡ stem_of b → a ≡ b
stem_of_injective [] [] e = refl
stem_of_injective [] (y ∷ ys) e = grind (arith, nat_tests, common_steps, not_nothing, stem_byte-written)
stem_of_injective (x ∷ xs) [] e = absurd (not_nothing (is_plain x) x (stem_of xs) (rw stem_byte-written at e))
stem_of_injective (x ∷ xs) (y ∷ ys) e = grind (arith, nat_tests, common_steps, stem_of_injective xs ys, same_head, stem_byte-written)
