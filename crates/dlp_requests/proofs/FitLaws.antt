-- How long the text of a request is.
use Rattle.std.proofs.Common.{ℕ, ◌+◌, ◌≤◌, List, [], ◌∷◌, length, Option, Some, None, arith}
use Rattle.std.specs.Int.{w16, to_be_bytes}
use Rattle.std.proofs.lemmas.List.{length-append}
use Rattle.dlp_args.specs.Arguments.{header, written_form}
use Rattle.dlp_args.specs.Cells.{CellKind, Byte, Half, Word, Pad, Run, Text, MaybeText, Rest, Counted, Whole, Names, Cell, cell_text, CellFits}
use Rattle.dlp_args.specs.Fields.{Fields, fields_text, FieldsFit}
use Rattle.dlp_requests.specs.RequestTexts.{IsShortCell, AreShort, argument_text}

-- the greatest length of what is written of a cell
abbrev pub cell_most : CellKind → ℕ
cell_most Byte = 1
cell_most Half = 2
cell_most Word = 4
cell_most Pad = 1
cell_most (Run n) = n
cell_most Text = 65501
cell_most (MaybeText limit) = limit + 1
cell_most Rest = 65500
cell_most Counted = 65502
cell_most Whole = 65500
cell_most Names = 512

abbrev pub fields_most : List CellKind → ℕ
fields_most [] = 0
fields_most (k ∷ ks) = cell_most k + fields_most ks

length-cell_text : (k : CellKind) (x : Cell k) → CellFits k x → IsShortCell k x → length (cell_text k x) ≤ cell_most k
length-cell_text Byte n fits short = omega arith
length-cell_text Half n fits short = omega arith
length-cell_text Word n fits short = omega arith
length-cell_text Pad pad fits short = omega arith
length-cell_text (Run n) run fits short = omega arith
length-cell_text Text text fits short = omega (arith, length-append text (0 ∷ []))
length-cell_text (MaybeText limit) None fits short = omega arith
length-cell_text (MaybeText limit) (Some text) fits short = omega (arith, fits.1, length-append text (0 ∷ []))
length-cell_text Rest some fits short = fits
length-cell_text Counted some fits short = omega (arith, length-append (to_be_bytes w16 (length some)) some)
length-cell_text Whole some fits short = short
length-cell_text Names names fits short = omega (arith, fits.0, fits.1, length-append names.0 names.1)

pub length-fields_text : (ks : List CellKind) (fields : Fields ks) → FieldsFit ks fields → AreShort ks fields → length (fields_text ks fields) ≤ fields_most ks
length-fields_text [] fields fits short = omega arith
length-fields_text (k ∷ []) fields fits short = omega (arith, length-cell_text k fields.0 fits short.0)
length-fields_text (k ∷ l ∷ ks) fields fits short =
    omega (
      arith,
      length-append (cell_text k fields.0) (fields_text (l ∷ ks) fields.1),
      length-cell_text k fields.0 fits.0 short.0,
      length-fields_text (l ∷ ks) fields.1 fits.1 short.1,
    )

length-header : (size id : ℕ) → length (header (written_form size) id size) ≤ 4
length-header size id = grind arith

pub length-argument_text : (id : Option ℕ) (content : List ℕ) → length (argument_text id content) ≤ 5 + length content
length-argument_text None content = omega arith
length-argument_text (Some id) content =
    omega (arith, length-append (header (written_form (length content)) id (length content)) content, length-header (length content) id)
