-- Hexadecimal, byte by byte.
use Rattle.std.proofs.lemmas.Bool.Decides.{nat_tests}
use Rattle.std.proofs.Common.{◌≡◌, ◌∙◌, ◌+◌, ◌==◌, ◌&&◌, ap, arith, cond, length, refl, sym, ℕ, suc, Bool, true, false, List, [], ◌∷◌, Option, Some, None}
use Rattle.std.specs.Prelude.{option_map}
use Rattle.run_words.specs.HexPairs.{first_pair}
use Rattle.run_words.specs.Words.{byte_count, is_digit}

-- bytes in front of others
abbrev pub onward : ℕ → Option ℕ → Option ℕ
onward count = option_map (λ more. count + more)

-- the bytes of a beginning and of the rest
abbrev pub count_from : Option (ℕ × List ℕ) → Option ℕ
count_from None = None
count_from (Some first) = onward first.0 (byte_count first.1)

onward-zero : (o : Option ℕ) → o ≡ onward 0 o
onward-zero None = refl
onward-zero (Some n) = ap Some (omega arith)

onward-one : (o : Option ℕ) → option_map suc o ≡ onward 1 o
onward-one None = refl
onward-one (Some n) = ap Some (omega arith)

onward-onward : (a b : ℕ) (o : Option ℕ) → onward (a + b) o ≡ onward a (onward b o)
onward-onward a b None = refl
onward-onward a b (Some n) = ap Some (omega arith)

one_left : (space : Bool) → cond space (Some 0) None ≡ count_from (cond space (Some (0, [])) None)
unfolding byte_count
one_left true = refl
one_left false = refl

more_left : (space pair : Bool) (more rest : List ℕ)
    → cond space (byte_count more) (cond pair (option_map suc (byte_count rest)) None)
    ≡ count_from (cond space (Some (0, more)) (cond pair (Some (1, rest)) None))
more_left true pair more rest = onward-zero (byte_count more)
more_left false true more rest = onward-one (byte_count rest)
more_left false false more rest = refl

byte_count-first : (first : ℕ) (rest : List ℕ) → byte_count (first ∷ rest) ≡ count_from (first_pair (first ∷ rest))
unfolding byte_count
byte_count-first first [] = one_left (first == 32)
byte_count-first first (second ∷ rest) = more_left (first == 32) (is_digit first && is_digit second) (second ∷ rest) rest

step : (rest : List ℕ) {o : Option (ℕ × List ℕ)} → (length rest == 0) ≡ false → o ≡ first_pair rest → byte_count rest ≡ count_from o
step [] some e = cc
step (x ∷ xs) some e = byte_count-first x xs ∙ ap count_from (sym e)

module _ (text rest : List ℕ) (count : ℕ) (so_far : onward count (byte_count rest) ≡ byte_count text) (some : (length rest == 0) ≡ false) where
  pub count_ends : None ≡ first_pair rest → None ≡ byte_count text
  count_ends e = ap (onward count) (sym (step rest some e)) ∙ so_far

  pub count_goes_on : (bytes : ℕ) (more : List ℕ) → Some (bytes, more) ≡ first_pair rest → onward (count + bytes) (byte_count more) ≡ byte_count text
  count_goes_on bytes more e = onward-onward count bytes (byte_count more) ∙ ap (onward count) (sym (step rest some e)) ∙ so_far

pub count_is_whole : (text rest : List ℕ) (count : ℕ) → onward count (byte_count rest) ≡ byte_count text → (length rest == 0) ≡ true
    → Some count ≡ byte_count text
unfolding byte_count
count_is_whole text [] count so_far none =
    let same : count ≡ count + 0 = omega arith in
    ap Some same ∙ so_far
count_is_whole text (x ∷ xs) count so_far none =
    let other : (length (x ∷ xs) == 0) ≡ false = grind (arith, nat_tests) in
    let no : false ≡ true = sym other ∙ none in
    cc
