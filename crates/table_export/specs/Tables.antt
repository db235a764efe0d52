-- Tables in CSV (RFC 4180): a line for each row, ended by CR LF, with commas between fields; a
-- field with a comma, a quote or a line break stands in quotes, and a quote in it is doubled.
use Rattle.std.specs.Prelude.{ℕ, ◌≤◌, ◌==◌, ◌||◌, Bool, false, List, [], ◌∷◌, encode_utf8_all, length, map, if◌then◌else◌}
use Rattle.std.specs.List.{flat_map}
use Rattle.csv.specs.Reading.{default_config, records}
use Rattle.csv.specs.Writing.{default_writer, row_text, with_terminator}
use Rattle.csv.specs.declared.parser.Terminator.TheVariants as term
use Rattle.csv.specs.declared.writer.WriterBuilder.{WriterBuilder}
use Rattle.palm_records.specs.Characters.{characters}
use Rattle.table_export.specs.declared.kind.Marks.{Marks}
use Rattle.table_export.specs.declared.kind.Marks.TheVariants.{Absent, Formulas}

-- commas, double quotes where a field needs them, and CR LF
abbrev pub table_writer : WriterBuilder
table_writer = with_terminator default_writer term.CRLF

-- the first byte of a field that a spreadsheet takes for a formula: `=`, `+`, `-`, `@`, a tabulator
-- or a carriage return; and the mark itself, an apostrophe, so that marks can be told from fields
abbrev pub is_marked_first : ℕ → Bool
is_marked_first byte =
    byte == 61 || byte == 43 || byte == 45 || byte == 64 || byte == 9 || byte == 13 || byte == 39

-- such a field
abbrev pub needs_mark : List ℕ → Bool
needs_mark [] = false
needs_mark (first ∷ rest) = is_marked_first first

-- the mark in front of it
abbrev pub marked : List ℕ → List ℕ
marked field = if needs_mark field then 39 ∷ field else field

-- the fields of a row as they are shown
abbrev pub shown_row : Marks → List (List ℕ) → List (List ℕ)
shown_row Absent row = row
shown_row Formulas row = map marked row

-- the text of a row
abbrev pub line_of : Marks → List (List ℕ) → List ℕ
line_of marks row = row_text table_writer (shown_row marks row)

-- the text of rows of fields in UTF-8
abbrev pub table_text : Marks → List (List (List ℕ)) → List ℕ
table_text marks rows = flat_map (line_of marks) rows

-- the rows that a text reads as, by the rules of RFC 4180
abbrev pub rows_in : List ℕ → List (List (List ℕ))
rows_in text = records default_config text

-- the field of a Palm's text
abbrev pub palm_field : List ℕ → List ℕ
palm_field value = encode_utf8_all (characters value)

-- a row of two fields or more
abbrev pub IsRow : List (List ℕ) → Type 0
IsRow row = 2 ≤ length row
