-- The lines of a text.
use Rattle.std.specs.Prelude.{ℕ, ◌-◌, ◌==◌, List, [], ◌∷◌, drop, length, nat_eq, slice_index, take, if◌then◌else◌}
use Rattle.std.specs.List.{onto_first, starts_with}

-- a byte order mark in front of a text is none of its characters
abbrev pub without_mark : List ℕ → List ℕ
without_mark text =
    if starts_with nat_eq text (0xEF ∷ 0xBB ∷ 0xBF ∷ []) then drop 3 text else text

-- the lines of a text: each ends at a line feed, and a last line without one counts
unfoldable pub lines_in : List ℕ → List (List ℕ)
lines_in [] = []
lines_in (byte ∷ rest) = if byte == 10 then [] ∷ lines_in rest else onto_first byte (lines_in rest)

-- a carriage return in front of the line feed belongs to the line's end
abbrev pub without_return : List ℕ → List ℕ
without_return line =
    if slice_index line (length line - 1) == 13 then take (length line - 1) line else line
