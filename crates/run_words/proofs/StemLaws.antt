-- Stems and the names that they stand for, byte by byte.
use Rattle.std.proofs.lemmas.Grind.{common_steps}
use Rattle.std.proofs.Common.{◌≡◌, ℕ, ◌==◌, Bool, true, false, cond, List, [], ◌∷◌, ◌++◌, length, sym, ap, ◌∙◌, arith, Option, Some, None, option_map, Result}
use Rattle.std.specs.Prelude.{option_and_then, OnOk, OnErr, is_err}
use Rattle.pdb_values.specs.Stems.{is_plain}
use Rattle.run_words.specs.StemNames.{as_name, bytes_of_stem, escaped, first_of, name_of, onto}

-- the names that begin with some bytes
abbrev pub behind : List ℕ → Option (List ℕ) → Option (List ℕ)
behind bytes = option_map (λ more. bytes ++ more)

-- what follows a first byte
abbrev pub from_first : Option (ℕ × List ℕ) → Option (List ℕ)
from_first None = None
from_first (Some first) = onto first.0 (bytes_of_stem first.1)

plain_or_escape : (plain percent : Bool) (first : ℕ) (more : List ℕ) (o : Option ℕ) (rest : List ℕ)
    → (cond plain (onto first (bytes_of_stem more)) (cond percent (option_and_then (λ byte. onto byte (bytes_of_stem rest)) o) None)) ≡ from_first
    (cond plain (Some (first, more)) (cond percent (option_map (λ byte. (byte, rest)) o) None))
plain_or_escape plain percent first more o rest = grind arith

plain_alone : (plain : Bool) (first : ℕ) (more : List ℕ)
    → cond plain (onto first (bytes_of_stem more)) None ≡ from_first (cond plain (Some (first, more)) None)
plain_alone plain first more = grind arith

-- the bytes of a stem are its first one and those of the rest
pub bytes_of_stem-first : (first : ℕ) (rest : List ℕ) → bytes_of_stem (first ∷ rest) ≡ from_first (first_of (first ∷ rest))
unfolding bytes_of_stem
bytes_of_stem-first first [] = plain_alone (is_plain first) first []
bytes_of_stem-first first (second ∷ []) = plain_alone (is_plain first) first (second ∷ [])
bytes_of_stem-first first (second ∷ third ∷ rest) = plain_or_escape (is_plain first) (first == 37) first (second ∷ third ∷ rest) (escaped second third) rest

pub behind-onto : (bytes : List ℕ) (byte : ℕ) (o : Option (List ℕ)) → behind bytes (onto byte o) ≡ behind (bytes ++ byte ∷ []) o
behind-onto bytes byte o = grind (arith, common_steps)

-- more than 31 bytes are no name
pub too_long : (bytes : List ℕ) (byte : ℕ) (o : Option (List ℕ)) → length bytes ≡ 31 → option_and_then as_name (behind bytes (onto byte o)) ≡ None
too_long bytes byte o e = grind (arith, common_steps)

-- ---- the loop that reads a stem

step : (rest : List ℕ) {o : Option (ℕ × List ℕ)} → (length rest == 0) ≡ false → o ≡ first_of rest → bytes_of_stem rest ≡ from_first o
step [] some e = cc
step (x ∷ xs) some e = bytes_of_stem-first x xs ∙ ap from_first (sym e)

module _ (stem rest bytes : List ℕ) (so_far : behind bytes (bytes_of_stem rest) ≡ bytes_of_stem stem) (some : (length rest == 0) ≡ false) where
  pub stem_ends : None ≡ first_of rest → None ≡ name_of stem
  stem_ends e = ap (λ o. option_and_then as_name (behind bytes o)) (sym (step rest some e)) ∙ ap (option_and_then as_name) so_far

  pub stem_goes_on : (byte : ℕ) (more : List ℕ) → Some (byte, more) ≡ first_of rest
      → behind (bytes ++ byte ∷ []) (bytes_of_stem more) ≡ bytes_of_stem stem
  stem_goes_on byte more e = sym (behind-onto bytes byte (bytes_of_stem more)) ∙ ap (behind bytes) (sym (step rest some e)) ∙ so_far

  pub stem_is_long : (byte : ℕ) (more : List ℕ) → Some (byte, more) ≡ first_of rest → length bytes ≡ 31 → None ≡ name_of stem
  stem_is_long byte more e full =
      sym (too_long bytes byte (bytes_of_stem more) full)
      ∙ ap (λ o. option_and_then as_name (behind bytes o)) (sym (step rest some e)) ∙ ap (option_and_then as_name) so_far

pub stem_is_read : (stem rest bytes : List ℕ) → behind bytes (bytes_of_stem rest) ≡ bytes_of_stem stem → (length rest == 0) ≡ true
    → as_name bytes ≡ name_of stem
unfolding bytes_of_stem
stem_is_read stem rest bytes so_far none = grind (arith, common_steps)

pub OnErr-at_err : {T E : Type 0} (r : Result T E) (P : Type 0) → true ≡ is_err r → OnErr r P → P
OnErr-at_err r P e h = grind arith

pub OnOk-at_ok : {T E : Type 0} (r : Result T E) (P : Type 0) → false ≡ is_err r → OnOk r P → P
OnOk-at_ok r P e h = grind arith
