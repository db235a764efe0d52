-- Layouts: the data of an argument as a row of cells, and its texts (pilot-link, `dlp.c`).
use Rattle.std.specs.Prelude.{◌≡◌, ◌==◌, ℕ, Bool, true, false, List, [], ◌∷◌, ◌++◌, length, Option, Some, None, if◌then◌else◌}
use Rattle.dlp_args.specs.Cells.{CellKind, Byte, Half, Word, Pad, Run, Text, MaybeText, Rest, Counted, Whole, Names, Cell, IsCell, cell_text, CellFits}
use Rattle.dlp_args.specs.CellReading.{◌>>=◌, cell_at}

-- what a row of cells holds
abbrev pub Fields : List CellKind → Type 0
Fields [] = Unit {0}
Fields (k ∷ ks) = Cell k × Fields ks

-- the bytes are texts of the cells, one after the other and up to the end
abbrev pub AreFields : (ks : List CellKind) → Fields ks → List ℕ → Type 0
AreFields [] fields bytes = bytes ≡ []
AreFields (k ∷ ks) fields bytes =
    (text rest : List ℕ) × (bytes ≡ text ++ rest) × IsCell k fields.0 text rest
    × AreFields ks fields.1 rest

-- the cells of all of the bytes, from left to right, or None where they are not those of the layout
abbrev pub fields_in : (ks : List CellKind) → List ℕ → Option (Fields ks)
fields_in [] bytes = if length bytes == 0 then Some tt else None
fields_in (k ∷ ks) bytes =
    cell_at k bytes >>= λ first. fields_in ks first.1 >>= λ others. Some (first.0, others)

-- the text that is written
abbrev pub fields_text : (ks : List CellKind) → Fields ks → List ℕ
fields_text [] fields = []
fields_text (k ∷ []) fields = cell_text k fields.0
fields_text (k ∷ l ∷ ks) fields = cell_text k fields.0 ++ fields_text (l ∷ ks) fields.1

-- each cell keeps its bounds
abbrev pub FieldsFit : (ks : List CellKind) → Fields ks → Type 0
FieldsFit [] fields = Unit {0}
FieldsFit (k ∷ []) fields = CellFits k fields.0
FieldsFit (k ∷ l ∷ ks) fields = CellFits k fields.0 × FieldsFit (l ∷ ks) fields.1

-- of the cells, only the last one stands up to the end
abbrev pub ends_well : List CellKind → Bool
ends_well [] = true
ends_well (k ∷ []) = true
ends_well (Text ∷ l ∷ ks) = false
ends_well (MaybeText limit ∷ l ∷ ks) = false
ends_well (Rest ∷ l ∷ ks) = false
ends_well (Counted ∷ l ∷ ks) = false
ends_well (Whole ∷ l ∷ ks) = false
ends_well (Names ∷ l ∷ ks) = false
ends_well (Byte ∷ l ∷ ks) = ends_well (l ∷ ks)
ends_well (Half ∷ l ∷ ks) = ends_well (l ∷ ks)
ends_well (Word ∷ l ∷ ks) = ends_well (l ∷ ks)
ends_well (Pad ∷ l ∷ ks) = ends_well (l ∷ ks)
ends_well (Run n ∷ l ∷ ks) = ends_well (l ∷ ks)
