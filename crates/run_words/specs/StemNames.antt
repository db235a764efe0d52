-- The name that a stem stands for.
use Rattle.std.specs.Prelude.{ℕ, not, ◌+◌, ◌-◌, ◌*◌, ◌==◌, ◌&&◌, nat_le, nat_lt, List, [], ◌∷◌, Option, Some, None, option_map, option_and_then, is_none}
use Rattle.std.specs.Prelude.{if◌then◌else◌}
use Rattle.pdb_values.specs.Names.{name_fault}
use Rattle.pdb_values.specs.Stems.{is_plain}

-- the number of a digit of upper-case hexadecimal, and 16 for any other byte
abbrev pub digit_number : ℕ → ℕ
digit_number byte =
    if nat_le 48 byte && nat_le byte 57 then byte - 48
    else (if nat_le 65 byte && nat_le byte 70 then byte - 55 else 16)

-- the byte of two digits, where it is one that doesn't stand for itself
abbrev pub escaped : ℕ → ℕ → Option ℕ
escaped high low =
    if nat_lt (digit_number high) 16 && nat_lt (digit_number low) 16
    && not (is_plain (digit_number high * 16 + digit_number low))
    then Some (digit_number high * 16 + digit_number low) else None

-- a byte and those behind it
abbrev pub onto : ℕ → Option (List ℕ) → Option (List ℕ)
onto byte = option_map (λ more. byte ∷ more)

-- the bytes that a stem stands for: one that stands for itself, or `%` and two digits, and so on
unfoldable pub bytes_of_stem : List ℕ → Option (List ℕ)
bytes_of_stem [] = Some []
bytes_of_stem (first ∷ []) = if is_plain first then Some (first ∷ []) else None
bytes_of_stem (first ∷ second ∷ []) =
    if is_plain first then onto first (bytes_of_stem (second ∷ [])) else None
bytes_of_stem (first ∷ second ∷ third ∷ rest) =
    if is_plain first then onto first (bytes_of_stem (second ∷ third ∷ rest))
    else (if first == 37
    then option_and_then (λ byte. onto byte (bytes_of_stem rest)) (escaped second third) else None)

-- bytes that are a name
abbrev pub as_name : List ℕ → Option (List ℕ)
as_name bytes = if is_none (name_fault bytes) then Some bytes else None

-- the name of a stem
abbrev pub name_of : List ℕ → Option (List ℕ)
name_of stem = option_and_then as_name (bytes_of_stem stem)

-- the first byte that a stem stands for, and the rest of the stem
abbrev pub first_of : List ℕ → Option (ℕ × List ℕ)
first_of [] = None
first_of (first ∷ []) = if is_plain first then Some (first, []) else None
first_of (first ∷ second ∷ []) = if is_plain first then Some (first, second ∷ []) else None
first_of (first ∷ second ∷ third ∷ rest) =
    if is_plain first then Some (first, second ∷ third ∷ rest)
    else (if first == 37 then option_map (λ byte. (byte, rest)) (escaped second third) else None)
