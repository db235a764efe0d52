-- What words give that ask for something between a handheld and another path.
use Rattle.std.specs.Prelude.{ℕ, List, Option, codes, option_map, option_and_then}
use Rattle.run_words.specs.Forms.{Given}

-- a handheld's folder and another path, and what may stand beside them
pub record Between : Type 0 where
  pub handheld : List ℕ
  pub other : List ℕ
  pub script : Option (List ℕ)
  pub trace : Option (List ℕ)

-- both paths, with what the words give beside them
abbrev pub between_paths : Given → List ℕ → List ℕ → Between
between_paths given handheld other = record {
  handheld = handheld;
  other = other;
  script = given.said (codes "script");
  trace = given.said (codes "trace");
}

-- what the words give
abbrev pub between_in : Given → Option Between
between_in given =
    option_and_then (λ handheld. option_map (between_paths given handheld) (given.plain 1))
    (given.plain 0)
