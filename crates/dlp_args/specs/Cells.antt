-- Cells, the parts of an argument's data, and their texts (pilot-link, `dlp.c`: big-endian numbers,
-- and texts with a zero).
use Rattle.std.specs.Prelude.{◌≡◌, ℕ, ◌<◌, ◌≤◌, ◌^◌, List, [], ◌∷◌, ◌++◌, length, Option, Some, None, IfSome, ◌==◌}
use Rattle.std.specs.List.{position_or_len}
use Rattle.std.specs.Int.{w16, w32, to_be_bytes}

-- A number of one, two or four bytes; a byte that isn't looked at; so many bytes. And what stands
-- up to the end: a text
-- with one zero, at its end; such a text of at most so many bytes, or nothing; at most 65,500
-- bytes; their number and then at most 65,500 bytes;
-- any bytes; the lengths of two runs of bytes and then both.
pub data CellKind : Type 0 where
  Byte : CellKind
  Half : CellKind
  Word : CellKind
  Pad : CellKind
  Run : ℕ → CellKind
  Text : CellKind
  MaybeText : ℕ → CellKind
  Rest : CellKind
  Counted : CellKind
  Whole : CellKind
  Names : CellKind

-- what a cell holds; texts stand without their zero
abbrev pub Cell : CellKind → Type 0
Cell Byte = ℕ
Cell Half = ℕ
Cell Word = ℕ
Cell Pad = Unit {0}
Cell (Run n) = List ℕ
Cell Text = List ℕ
Cell (MaybeText limit) = Option (List ℕ)
Cell Rest = List ℕ
Cell Counted = List ℕ
Cell Whole = List ℕ
Cell Names = List ℕ × List ℕ

-- the place of the first zero, or the length
abbrev pub first_zero : List ℕ → ℕ
first_zero bytes = position_or_len (λ byte. byte == 0) bytes

-- no zero is among the bytes
abbrev pub HasNoZero : List ℕ → Type 0
HasNoZero bytes = first_zero bytes ≡ length bytes

-- a text and its zero
abbrev pub IsTextCell : List ℕ → List ℕ → Type 0
IsTextCell text bytes = (bytes ≡ text ++ 0 ∷ []) × HasNoZero text

-- a text of at most so many bytes and its zero, or no byte
abbrev pub IsMaybeTextCell : ℕ → Option (List ℕ) → List ℕ → Type 0
IsMaybeTextCell limit None bytes = bytes ≡ []
IsMaybeTextCell limit (Some text) bytes = IsTextCell text bytes × (length text ≤ limit)

-- the bytes are a text of the cell, and the rest may follow
abbrev pub IsCell : (k : CellKind) → Cell k → List ℕ → List ℕ → Type 0
IsCell Byte n bytes rest = (bytes ≡ n ∷ []) × (n < 2 ^ 8)
IsCell Half n bytes rest = (bytes ≡ to_be_bytes w16 n) × (n < 2 ^ 16)
IsCell Word n bytes rest = (bytes ≡ to_be_bytes w32 n) × (n < 2 ^ 32)
IsCell Pad pad bytes rest = length bytes ≡ 1
IsCell (Run n) run bytes rest = (bytes ≡ run) × (length run ≡ n)
IsCell Text text bytes rest = IsTextCell text bytes × (rest ≡ [])
IsCell (MaybeText limit) text bytes rest = IsMaybeTextCell limit text bytes × (rest ≡ [])
IsCell Rest some bytes rest = (bytes ≡ some) × (length some ≤ 65500) × (rest ≡ [])
IsCell Counted some bytes rest =
    (bytes ≡ to_be_bytes w16 (length some) ++ some) × (length some ≤ 65500) × (rest ≡ [])
IsCell Whole some bytes rest = (bytes ≡ some) × (rest ≡ [])
IsCell Names names bytes rest =
    (bytes ≡ length names.0 ∷ length names.1 ∷ names.0 ++ names.1) × (length names.0 < 256)
    × (length names.1 < 256) × (rest ≡ [])

-- the text that is written of a cell; a byte that isn't looked at is written 0
abbrev pub cell_text : (k : CellKind) → Cell k → List ℕ
cell_text Byte n = n ∷ []
cell_text Half n = to_be_bytes w16 n
cell_text Word n = to_be_bytes w32 n
cell_text Pad pad = 0 ∷ []
cell_text (Run n) run = run
cell_text Text text = text ++ 0 ∷ []
cell_text (MaybeText limit) None = []
cell_text (MaybeText limit) (Some text) = text ++ 0 ∷ []
cell_text Rest some = some
cell_text Counted some = to_be_bytes w16 (length some) ++ some
cell_text Whole some = some
cell_text Names names = length names.0 ∷ length names.1 ∷ names.0 ++ names.1

-- the bounds of what has a text
abbrev pub CellFits : (k : CellKind) → Cell k → Type 0
CellFits Byte n = n < 2 ^ 8
CellFits Half n = n < 2 ^ 16
CellFits Word n = n < 2 ^ 32
CellFits Pad pad = Unit {0}
CellFits (Run n) run = length run ≡ n
CellFits Text text = HasNoZero text
CellFits (MaybeText limit) text = IfSome text (λ text. HasNoZero text × (length text ≤ limit))
CellFits Rest some = length some ≤ 65500
CellFits Counted some = length some ≤ 65500
CellFits Whole some = Unit {0}
CellFits Names names = (length names.0 < 256) × (length names.1 < 256)
