-- The layouts of replies (pilot-link, `dlp.c`).
use Rattle.std.specs.Prelude.{List, [], ◌∷◌}
use Rattle.dlp_args.specs.Cells.{CellKind, Byte, Half, Word, Pad, Run, Rest, Counted, Whole, Names}

-- user, viewer and PC; the dates of the last good and the last session; name and password behind
-- their lengths
abbrev pub user_info : List CellKind
user_info = Word ∷ Word ∷ Word ∷ Run 8 ∷ Run 8 ∷ Names ∷ []

-- the version of the ROM, the locale, and the product's id behind its length
abbrev pub sys_info : List CellKind
sys_info = Word ∷ Word ∷ Pad ∷ Byte ∷ Whole ∷ []

-- the index of the last entry, flags, a number of entries of one byte, and their texts
abbrev pub db_list : List CellKind
db_list = Half ∷ Byte ∷ Byte ∷ Whole ∷ []

-- a handle
abbrev pub handle_alone : List CellKind
handle_alone = Byte ∷ []

-- a block behind its size
abbrev pub block : List CellKind
block = Counted ∷ []

-- a record's id, index, whole size, attributes and category, and the bytes that were asked for
abbrev pub record_reply : List CellKind
record_reply = Word ∷ Half ∷ Half ∷ Byte ∷ Byte ∷ Whole ∷ []

-- the id of a written record
abbrev pub id_alone : List CellKind
id_alone = Word ∷ []

-- a resource's type, id, index and whole size, and the bytes that were asked for
abbrev pub resource_reply : List CellKind
resource_reply = Run 4 ∷ Half ∷ Half ∷ Half ∷ Rest ∷ []

-- a number of entries
abbrev pub count_alone : List CellKind
count_alone = Half ∷ []

-- a number of ids and their texts
abbrev pub id_list : List CellKind
id_list = Half ∷ Whole ∷ []
