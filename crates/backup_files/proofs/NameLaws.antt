-- What the end of a name is in small letters.
use Rattle.std.proofs.Common.{◌≡◌, ◌∙◌, ◌-◌, ℕ, Bool, true, false, List, ap, drop, length, map, refl, sym, take}
use Rattle.std.specs.Prelude.{bytes_eq, nat_eq}
use Rattle.std.specs.Bool.{IsTrue}
use Rattle.pdb_values.proofs.NamedLaws.{bytes_eq-other, bytes_eq-own}
use Rattle.std.specs.Cmp.Lexicographic.{pointwise}
use Rattle.std.specs.Char.{to_ascii_lowercase}
use Rattle.std.specs.List.{ends_with}
use Rattle.std.specs.Str.{str_to_ascii_lowercase}
use Rattle.std.proofs.Math.Seq.{take-length}
use Rattle.std.proofs.lemmas.List.{drop-map, length-drop, length-map}

-- the last bytes in small letters are the last ones of all in small letters
pub ending_in_small : (ending name : List ℕ)
    → pointwise nat_eq (str_to_ascii_lowercase ending) (str_to_ascii_lowercase (drop (length name - length ending) name))
    ≡ ends_with nat_eq (str_to_ascii_lowercase name) (str_to_ascii_lowercase ending)
ending_in_small ending name =
    ap (pointwise nat_eq (map to_ascii_lowercase ending))
    (sym (drop-map to_ascii_lowercase (length name - length ending) name)
    ∙ (λ i. drop (sym (length-map name to_ascii_lowercase) i - sym (length-map ending to_ascii_lowercase) i) (map to_ascii_lowercase name)))

-- all that is left from a place on
pub rest-whole : (start : ℕ) (name : List ℕ) → take (length name - start) (drop start name) ≡ drop start name
rest-whole start name = ap (λ n. take n (drop start name)) (sym (length-drop start name)) ∙ take-length (drop start name)

-- a test of two texts
pub tested : (answer : Bool) (a b : List ℕ) → (IsTrue answer → a ≡ b) → (a ≡ b → IsTrue answer) → answer ≡ bytes_eq a b
tested true a b same is = sym (ap (λ (x : List ℕ). bytes_eq x b) (same refl) ∙ bytes_eq-own b)
tested false a b same is = sym (bytes_eq-other a b (λ e. absurd (let no : false ≡ true = is e in cc)))
