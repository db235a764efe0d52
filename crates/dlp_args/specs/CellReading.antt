-- The cell at the front of bytes and the bytes behind it, or None where there is no such cell
-- (pilot-link, `dlp.c`).
use Rattle.std.specs.Prelude.{ℕ, ◌+◌, List, [], ◌∷◌, length, take, drop, Option, Some, None, option_and_then, nat_lt, ◌==◌, if◌then◌else◌}
use Rattle.std.specs.Option.{option_map}
use Rattle.std.specs.List.{position}
use Rattle.std.specs.Int.{Width, w8, w16, w32, byte_len, from_be_bytes}
use Rattle.dlp_args.specs.Cells.{CellKind, Byte, Half, Word, Pad, Run, Text, MaybeText, Rest, Counted, Whole, Names, Cell}

-- a step and then the next one, where both find something
infixl 10 ◌>>=◌
abbrev pub ◌>>=◌ : {A B : Type 0} → Option A → (A → Option B) → Option B
o >>= f = option_and_then f o

-- bytes that are at most 65,500
abbrev pub at_most_65500 : List ℕ → Option (List ℕ)
at_most_65500 bytes = if nat_lt 65500 (length bytes) then None else Some bytes

-- a big-endian number
unfoldable pub number_at : Width → List ℕ → Option (ℕ × List ℕ)
number_at w bytes =
    if nat_lt (length bytes) (byte_len w) then None
    else Some (from_be_bytes w (take (byte_len w) bytes), drop (byte_len w) bytes)

-- so many bytes
unfoldable pub some_at : ℕ → List ℕ → Option (List ℕ × List ℕ)
some_at n bytes = if nat_lt (length bytes) n then None else Some (take n bytes, drop n bytes)

-- the text before the first zero, which is the last byte
unfoldable pub text_in : List ℕ → Option (List ℕ)
text_in bytes =
    position (λ byte. byte == 0) bytes >>= λ end. if end + 1 == length bytes
    then Some (take end bytes) else None

-- such a text of at most so many bytes
unfoldable pub short_text_in : ℕ → List ℕ → Option (List ℕ)
short_text_in limit bytes =
    text_in bytes >>= λ text. if nat_lt limit (length text) then None else Some text

-- such a text, or no byte
unfoldable pub maybe_text_in : ℕ → List ℕ → Option (Option (List ℕ))
maybe_text_in limit [] = Some None
maybe_text_in limit (byte ∷ bytes) =
    option_map (λ text. Some text) (short_text_in limit (byte ∷ bytes))

-- a number of two bytes, and then exactly so many bytes
unfoldable pub counted_in : List ℕ → Option (List ℕ)
counted_in bytes = do
  size ← number_at w16 bytes
  if size.0 == length size.1 then at_most_65500 size.1 else None

-- two lengths of one byte, and then exactly so many bytes and so many
unfoldable pub names_in : List ℕ → Option (List ℕ × List ℕ)
names_in bytes = do
  name_len ← number_at w8 bytes
  password_len ← number_at w8 name_len.1
  name ← some_at name_len.0 password_len.1
  if password_len.0 == length name.1 then Some name else None

-- what all of the bytes hold, with nothing behind it
abbrev pub whole : {A : Type 0} → Option A → Option (A × List ℕ)
whole o = option_map (λ x. (x, [])) o

-- a cell of each kind
abbrev pub cell_at : (k : CellKind) → List ℕ → Option (Cell k × List ℕ)
cell_at Byte bytes = number_at w8 bytes
cell_at Half bytes = number_at w16 bytes
cell_at Word bytes = number_at w32 bytes
cell_at Pad bytes = option_map (λ n. (tt, n.1)) (number_at w8 bytes)
cell_at (Run n) bytes = some_at n bytes
cell_at Text bytes = whole (text_in bytes)
cell_at (MaybeText limit) bytes = whole (maybe_text_in limit bytes)
cell_at Rest bytes = whole (at_most_65500 bytes)
cell_at Counted bytes = whole (counted_in bytes)
cell_at Whole bytes = whole (Some bytes)
cell_at Names bytes = whole (names_in bytes)
