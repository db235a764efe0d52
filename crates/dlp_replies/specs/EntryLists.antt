-- Entries of a list of databases, and the texts that are written of them (pilot-link, `dlp.c`:
-- dlp_ReadDBList).
use Rattle.std.specs.Prelude.{◌≡◌, ◌<◌, ◌^◌, ℕ, ◌+◌, List, [], ◌∷◌, ◌++◌, length}
use Rattle.std.specs.List.{flat_map}
use Rattle.std.specs.Int.{w16, w32, to_be_bytes}
use Rattle.pdb_values.specs.declared.head.DbHead.{DbHead}
use Rattle.pdb_values.specs.Names.{IsName}
use Rattle.pdb_values.specs.PalmDates.{wire_date}
use Rattle.dlp_args.specs.Cells.{CellKind, Byte, Half, Word, Pad, Run, Text}
use Rattle.dlp_args.specs.Fields.{Fields, fields_text}

-- the size of the whole entry, a byte that isn't looked at, attributes, type, creator, version and
-- modification number of
-- a database, its three dates, its index, and its name with a zero
abbrev pub entry : List CellKind
entry = Byte ∷ Pad ∷ Half ∷ Run 4 ∷ Run 4 ∷ Half ∷ Word ∷ Run 8 ∷ Run 8 ∷ Run 8 ∷ Half ∷ Text ∷ []

-- what the cells of an entry hold
abbrev pub Row : Type 0
Row = Fields entry

-- the cells of a database's index and head
abbrev pub row_of : ℕ × DbHead → Row
row_of item =
    let head = item.1 in (
      45 + length head.name,
      (
        tt,
        (
          head.attributes,
          (
            head.kind.0,
            (
              head.creator.0,
              (
                head.version,
                (
                  head.modnum,
                  (
                    wire_date head.created,
                    (
                      wire_date head.modified,
                      (wire_date head.backup, (item.0, (head.name, tt))),
                    ),
                  ),
                ),
              ),
            ),
          ),
        ),
      ),
    )

-- the text that is written of an entry
abbrev pub entry_text : ℕ × DbHead → List ℕ
entry_text item = fields_text entry (row_of item)

-- what it has before the dates, and from them on
abbrev pub entry_front : DbHead → List ℕ
entry_front head = (45 + length head.name) ∷ 0 ∷ to_be_bytes w16 head.attributes
    ++ (head.kind.0
    ++ (head.creator.0 ++ (to_be_bytes w16 head.version ++ to_be_bytes w32 head.modnum)))

abbrev pub entry_back : ℕ → DbHead → List ℕ
entry_back index head =
    wire_date head.created
    ++ (wire_date head.modified
    ++ (wire_date head.backup ++ (to_be_bytes w16 index ++ (head.name ++ 0 ∷ []))))

-- the texts that are written of entries, one after the other
abbrev pub entries_text : List (ℕ × DbHead) → List ℕ
entries_text items = flat_map entry_text items

-- an entry keeps the bounds of its cells, has no seed, and its name is one
pub record IsEntry (item : ℕ × DbHead) : Type 0 where
  pub index : item.0 < 2 ^ 16
  pub attributes : item.1.attributes < 2 ^ 16
  pub version : item.1.version < 2 ^ 16
  pub modnum : item.1.modnum < 2 ^ 32
  pub created : item.1.created < 2 ^ 32
  pub modified : item.1.modified < 2 ^ 32
  pub backup : item.1.backup < 2 ^ 32
  pub kind : length item.1.kind.0 ≡ 4
  pub creator : length item.1.creator.0 ≡ 4
  pub seed : item.1.seed ≡ 0
  pub name : IsName item.1.name
