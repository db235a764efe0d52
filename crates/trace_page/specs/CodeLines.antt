-- What stands between the tags `<code>` and `</code>` of a text.
use Rattle.std.specs.Prelude.{ℕ, ◌+◌, ◌==◌, List, [], ◌∷◌, ◌++◌, codes, slice_index, if◌then◌else◌}

-- how many bytes of `<code>` were met behind one more byte: all six up to the next `<`
abbrev pub met_behind : ℕ → ℕ → ℕ
met_behind met byte =
    if met == 6 then (if byte == 60 then 1 else 6)
    else (if byte == slice_index (codes "<code>") met then met + 1
    else (if byte == 60 then 1 else 0))

-- a byte is shown behind `<code>`, and a line feed in place of the `<` behind it
abbrev pub shown : ℕ → ℕ → List ℕ
shown met byte = if met == 6 then (if byte == 60 then 10 ∷ [] else byte ∷ []) else []

-- what is shown of a text, where so many bytes of `<code>` stand before it
abbrev pub code_from : ℕ → List ℕ → List ℕ
code_from met [] = []
code_from met (byte ∷ text) = shown met byte ++ code_from (met_behind met byte) text

-- what stands between the tags, one after the other and each with a line feed
abbrev pub code_lines : List ℕ → List ℕ
code_lines text = code_from 0 text
