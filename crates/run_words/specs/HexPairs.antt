-- The beginning of hexadecimal.
use Rattle.std.specs.Prelude.{ℕ, ◌==◌, ◌&&◌, List, [], ◌∷◌, Option, Some, None, if◌then◌else◌}
use Rattle.run_words.specs.Words.{is_digit}

-- how many bytes it stands for, none where it is a space, and the rest
abbrev pub first_pair : List ℕ → Option (ℕ × List ℕ)
first_pair [] = None
first_pair (first ∷ []) = if first == 32 then Some (0, []) else None
first_pair (first ∷ second ∷ rest) =
    if first == 32 then Some (0, second ∷ rest)
    else (if is_digit first && is_digit second then Some (1, rest) else None)
