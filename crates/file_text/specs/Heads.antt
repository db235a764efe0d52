-- The lines of a database's head and blocks (Palm File Format Specification, header of a database).
use Rattle.std.specs.Prelude.{ℕ, List, ◌++◌, codes, length, Option, None, Some}
use Rattle.pdb_values.specs.declared.head.DbHead.{DbHead}
use Rattle.pdb_values.specs.Stems.{stem_of}
use Rattle.file_text.specs.Fields.{bytes_of, hex_text, line_feed, number_text}

-- `name STEM`
unfoldable pub name_line : DbHead → List ℕ
name_line head = codes "name " ++ stem_of head.name ++ line_feed

-- `type HHHHHHHH creator HHHHHHHH`
abbrev pub codes_text : DbHead → List ℕ
codes_text head =
    hex_text (codes "type ") head.kind.0 ++ hex_text (codes " creator ") head.creator.0

-- ` version N attributes HHHH`, and the end of the line
abbrev pub version_text : DbHead → List ℕ
version_text head =
    number_text (codes " version ") head.version
    ++ hex_text (codes " attributes ") (bytes_of 2 head.attributes) ++ line_feed

-- `type HHHHHHHH creator HHHHHHHH version N attributes HHHH`
abbrev pub type_line : DbHead → List ℕ
type_line head = codes_text head ++ version_text head

-- `created N modified N backup N`, in seconds from 1904-01-01T00:00:00
unfoldable pub dates_line : DbHead → List ℕ
dates_line head =
    number_text (codes "created ") head.created ++ number_text (codes " modified ") head.modified
    ++ number_text (codes " backup ") head.backup ++ line_feed

-- the three lines of a head
abbrev pub head_lines : DbHead → List ℕ
head_lines head = name_line head ++ type_line head ++ dates_line head

-- a word and `-`
abbrev pub absent_text : List ℕ → List ℕ
absent_text word = word ++ codes "-"

-- a word and the length of a block, or `-` where it is absent; a present block can be empty
abbrev pub block_text : List ℕ → Option (List ℕ) → List ℕ
block_text word None = absent_text word
block_text word (Some block) = number_text word (length block)

-- `app N sort N`
unfoldable pub blocks_line : Option (List ℕ) → Option (List ℕ) → List ℕ
blocks_line app sort =
    block_text (codes "app ") app ++ block_text (codes " sort ") sort ++ line_feed
