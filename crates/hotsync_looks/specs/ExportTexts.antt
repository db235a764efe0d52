-- What an export makes of a database: a text, or why there is none.
use Rattle.std.specs.Prelude.{◌≡◌, ⊤, ℕ, Bool, true, false, List, Option, Some, None, Result, Ok, Err, if◌then◌else◌}
use Rattle.pdb_values.specs.Databases.{DatabaseValue}
use Rattle.palm_records.specs.Choices.{BadItem, first_bad}
use Rattle.palm_records.specs.declared.choice.BrokenRecords.{BrokenRecords}
use Rattle.palm_records.specs.declared.choice.BrokenRecords.TheVariants.{Kept, Refused}
use Rattle.palm_records.specs.declared.choice.Privacy.{Privacy}
use Rattle.palm_records.specs.declared.choice.Privacy.TheVariants.{All, WithoutPrivate}
use Rattle.palm_records.specs.declared.fault.ExportFault.{ExportFault}
use Rattle.palm_records.specs.declared.fault.ExportFault.TheVariants as fault
use Rattle.memo_texts.specs.Exports.{exported_memos, holds_memos}
use Rattle.memo_texts.specs.Memos.{memos_text}
use Rattle.card_export.specs.Exports.{exported_cards, first_bad_address, holds_addresses}
use Rattle.card_export.specs.Properties.{cards_text}
use Rattle.calendar_export.specs.Exports.{exported, fault_of, is_of_kind, source_of}
use Rattle.calendar_export.specs.Items.{calendar_text}
use Rattle.calendar_export.specs.declared.kind.Kind.{Kind}
use Rattle.calendar_export.specs.declared.kind.Kind.TheVariants.{Dates, Tasks}
use Rattle.table_export.specs.Exports as table
use Rattle.table_export.specs.Tables.{table_text}
use Rattle.table_export.specs.declared.kind.Kind.{Kind as TableKind}
use Rattle.table_export.specs.declared.kind.Kind.TheVariants as rows
use Rattle.table_export.specs.declared.kind.Marks.{Marks}
use Rattle.table_export.specs.declared.kind.Marks.TheVariants.{Absent as Unmarked, Formulas}
use Rattle.run_words.specs.declared.look.Export.{Export}
use Rattle.run_words.specs.declared.look.ExportForm.{ExportForm}
use Rattle.run_words.specs.declared.look.ExportForm.TheVariants.{Text, Cards, Table, Calendar}

-- which records are exported
abbrev pub privacy_of : Export → Privacy
privacy_of export = if export.without_private then WithoutPrivate else All

-- what becomes of those that are out of their form
abbrev pub broken_of : Export → BrokenRecords
broken_of export = if export.keep_broken then Kept else Refused

-- which fields of a table have marks: those that a spreadsheet takes for formulas, or none
abbrev pub marks_of : Export → Marks
marks_of export = if export.raw then Unmarked else Formulas

-- why a database has no text in a form: it holds nothing of the form, or its first record that is
-- out of its own form
pub data NoText : Type 0 where
  Absent : NoText
  OutOfForm : ℕ → ℕ → NoText

-- a text, unless a record is out of its form and such records are refused
abbrev pub unless_bad : BrokenRecords → Option BadItem → List ℕ → Result (List ℕ) NoText
unless_bad Kept bad text = Ok text
unless_bad Refused None text = Ok text
unless_bad Refused (Some bad) text = Err (OutOfForm bad.index bad.place)

-- of a database that holds what has the form
abbrev pub if_held : Bool → Result (List ℕ) NoText → Result (List ℕ) NoText
if_held true text = text
if_held false text = Err Absent

-- its memos
abbrev pub memos_export : Export → DatabaseValue → Result (List ℕ) NoText
memos_export export database =
    if_held (holds_memos database.head)
    (Ok (memos_text (exported_memos (privacy_of export) database)))

-- its addresses, as cards
abbrev pub cards_export : Export → DatabaseValue → Result (List ℕ) NoText
cards_export export database =
    if_held (holds_addresses database.head)
    (unless_bad (broken_of export) (first_bad_address (privacy_of export) database)
    (cards_text (exported_cards (privacy_of export) database)))

-- its addresses, or its tasks, as a table
abbrev pub rows_export : TableKind → Export → DatabaseValue → Result (List ℕ) NoText
rows_export kind export database =
    if_held (table.is_of_kind kind database.head)
    (unless_bad (broken_of export) (table.first_bad_item kind (privacy_of export) database)
    (table_text (marks_of export) (table.exported_rows kind (privacy_of export) database)))

-- its addresses, if it holds any, else its tasks
abbrev pub table_export : Export → DatabaseValue → Result (List ℕ) NoText
table_export export database =
    if table.is_of_kind rows.Addresses database.head then rows_export rows.Addresses export database
    else rows_export rows.Tasks export database

-- its tasks, or its dates, as a calendar that was made then
abbrev pub kind_export : Kind → ℕ → Export → DatabaseValue → Result (List ℕ) NoText
kind_export kind made export database =
    if_held (is_of_kind kind database.head)
    (unless_bad (broken_of export)
    (first_bad (fault_of kind) (privacy_of export) 0 database.records)
    (calendar_text (source_of made database) (exported kind (privacy_of export) database)))

-- its tasks, if it holds any, else its dates
abbrev pub calendar_export : ℕ → Export → DatabaseValue → Result (List ℕ) NoText
calendar_export made export database =
    if is_of_kind Tasks database.head then kind_export Tasks made export database
    else kind_export Dates made export database

-- a database in the form of an export
abbrev pub form_export : Export → ExportForm → DatabaseValue → Result (List ℕ) NoText
form_export export Text database = memos_export export database
form_export export Cards database = cards_export export database
form_export export Table database = table_export export database
form_export export (Calendar made) database = calendar_export made export database

-- an answer of a call that exports is the text, says why there is none, or that memory ran out
abbrev pub SaysNoText : Result (List ℕ) NoText → ExportFault → Type 0
SaysNoText said fault.CannotExport = said ≡ Err Absent
SaysNoText said (fault.BadRecord index place) = said ≡ Err (OutOfForm index place)
SaysNoText said fault.NoMemory = ⊤
