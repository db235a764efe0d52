-- Text in lines, each ended by a line feed, which the last one may lack.
use Rattle.std.specs.Prelude.{ℕ, ◌==◌, if◌then◌else◌, List, [], ◌∷◌}

-- the byte begins the first of these lines, or is a line by itself
abbrev pub begin : ℕ → List (List ℕ) → List (List ℕ)
begin byte [] = (byte ∷ []) ∷ []
begin byte (line ∷ later) = (byte ∷ line) ∷ later

-- the lines, without their ends
abbrev pub lines_of : List ℕ → List (List ℕ)
lines_of [] = []
lines_of (byte ∷ bytes) = if byte == 10 then [] ∷ lines_of bytes else begin byte (lines_of bytes)
