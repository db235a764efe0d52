-- What words give that ask for a handheld over captured bytes.
use Rattle.std.specs.Prelude.{ℕ, List, Option, codes, option_map, option_and_then}
use Rattle.run_words.specs.Forms.{Given}

-- a handheld's folder, the file of the bytes that it hears, and the file for what it says
pub record Capture : Type 0 where
  pub handheld : List ℕ
  pub input : List ℕ
  pub output : List ℕ

-- the paths in their order
abbrev pub capture_paths : List ℕ → List ℕ → List ℕ → Capture
capture_paths handheld input output =
    record { handheld = handheld; input = input; output = output }

-- both files, behind the folder
abbrev pub capture_files : Given → List ℕ → Option Capture
capture_files given handheld =
    option_and_then
    (λ input. option_map (capture_paths handheld input) (given.said (codes "out")))
    (given.said (codes "in"))

-- what the words give
abbrev pub capture_in : Given → Option Capture
capture_in given = option_and_then (capture_files given) (given.plain 0)
