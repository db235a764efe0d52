-- Stems read back: the database whose name a text is the stem of.
use Rattle.std.specs.Prelude.{ℕ, ◌+◌, ◌-◌, ◌*◌, ◌%◌, ◌==◌, bytes_eq, nat_lt, if◌then◌else◌, List, [], ◌∷◌, Option, None, Some, option_and_then}
use Rattle.std.specs.Option.{is_none}
use Rattle.pdb_values.specs.Names.{name_fault}
use Rattle.pdb_values.specs.Stems.{stem_of}

-- the number of a hexadecimal digit: 0 to 9, then A to F; another byte is taken as some digit
abbrev pub digit_number : ℕ → ℕ
digit_number digit = (if nat_lt digit 58 then digit - 48 else digit - 55) % 16

-- the bytes that a text stands for: a `%` and the two digits behind it for one, each other byte for
-- itself
unfoldable pub stem_bytes : List ℕ → List ℕ
stem_bytes [] = []
stem_bytes (byte ∷ []) = byte ∷ []
stem_bytes (byte ∷ next ∷ []) = byte ∷ next ∷ []
stem_bytes (byte ∷ high ∷ low ∷ text) =
    if byte == 37 then (16 * digit_number high + digit_number low) ∷ stem_bytes text
    else byte ∷ stem_bytes (high ∷ low ∷ text)

-- bytes that are a name
abbrev pub name_in : List ℕ → Option (List ℕ)
name_in bytes = if is_none (name_fault bytes) then Some bytes else None

-- the name that a text is the stem of
unfoldable pub stem_in : List ℕ → Option (List ℕ)
stem_in text =
    option_and_then (λ name. if bytes_eq (stem_of name) text then Some name else None)
    (name_in (stem_bytes text))
