-- The text of a file's database in a form, or why there is none.
use Rattle.std.specs.Prelude.{◌≡◌, ◌⊎◌, ⊤, ℕ, ◌==◌, ◌/◌, ◌%◌, Bool, true, false, nat_lt, List, Option, Some, None, Result, Ok, Err, if◌then◌else◌}
use Rattle.std.specs.Option.{option_map}
use Rattle.pdb_values.specs.Databases.{DatabaseValue}
use Rattle.pdb_files.specs.Faults.{file_fault}
use Rattle.pdb_files.specs.Files.{IsFileText}
use Rattle.pdb_files.specs.declared.fault.FileFault.{FileFault}
use Rattle.palm_records.specs.Choices.{BadItem, first_bad}
use Rattle.palm_records.specs.declared.choice.BrokenRecords.{BrokenRecords}
use Rattle.palm_records.specs.declared.choice.BrokenRecords.TheVariants.{Kept, Refused}
use Rattle.palm_records.specs.declared.choice.Privacy.{Privacy}
use Rattle.palm_records.specs.declared.choice.Privacy.TheVariants.{All, WithoutPrivate}
use Rattle.palm_records.specs.declared.fault.ExportFault.{ExportFault}
use Rattle.palm_records.specs.declared.fault.ExportFault.TheVariants as fault
use Rattle.memo_texts.specs.Exports.{exported_memos, holds_memos}
use Rattle.memo_texts.specs.Memos.{memos_text}
use Rattle.card_export.specs.Exports.{exported_cards, first_bad_address, holds_addresses}
use Rattle.card_export.specs.Properties.{cards_text}
use Rattle.calendar_export.specs.Exports as calendar
use Rattle.calendar_export.specs.Items.{calendar_text}
use Rattle.calendar_export.specs.declared.kind.Kind.{Kind}
use Rattle.calendar_export.specs.declared.kind.Kind.TheVariants.{Dates, Tasks}
use Rattle.table_export.specs.Exports as table
use Rattle.table_export.specs.Tables.{table_text}
use Rattle.table_export.specs.declared.kind.Kind.{Kind as TableKind}
use Rattle.table_export.specs.declared.kind.Kind.TheVariants as rows
use Rattle.table_export.specs.declared.kind.Marks.TheVariants as marks
use Rattle.hotsync_c.specs.declared.export.ExportForm.{ExportForm}
use Rattle.hotsync_c.specs.declared.export.ExportForm.TheVariants.{Text, Cards, Table, Calendar}
use Rattle.hotsync_c.specs.declared.export.ExportWishes.{ExportWishes}
use Rattle.hotsync_c.specs.declared.export.HsBadRecord.{HsBadRecord}
use Rattle.hotsync_c.specs.declared.refusal.Refusal.{Refusal}
use Rattle.hotsync_c.specs.declared.refusal.Refusal.TheVariants.{Memory, Form, Nothing, BadRecord}

-- ---- what is asked

-- the form of a number
abbrev pub form_of : ℕ → Option ExportForm
form_of number =
    if number == 0 then Some Text
    else (if number == 1 then Some Cards
    else (if number == 2 then Some Table else (if number == 3 then Some Calendar else None)))

-- flag 1: without private records
abbrev pub privacy_of : ℕ → Privacy
privacy_of flags = if (flags % 2) == 1 then WithoutPrivate else All

-- flag 2: records that are out of their form are kept
abbrev pub broken_of : ℕ → BrokenRecords
broken_of flags = if nat_lt 1 flags then Kept else Refused

-- a form, the time at which a calendar is made, and at most these two flags
abbrev pub wishes_of : ℕ → ℕ → ℕ → Option ExportWishes
wishes_of form made flags =
    if nat_lt 3 flags then None
    else option_map
    (λ form. record {
      form = form;
      made = made;
      privacy = privacy_of flags;
      broken = broken_of flags;
    })
    (form_of form)

-- ---- the text of a database, or the refusal

-- a text, unless a record is out of its form and such records are refused
abbrev pub unless_bad : BrokenRecords → Option BadItem → List ℕ → Result (List ℕ) Refusal
unless_bad Kept bad text = Ok text
unless_bad Refused None text = Ok text
unless_bad Refused (Some bad) text = Err (BadRecord bad.index bad.place)

-- of a database that holds what has the form
abbrev pub if_held : Bool → Result (List ℕ) Refusal → Result (List ℕ) Refusal
if_held true text = text
if_held false text = Err Nothing

-- its memos
abbrev pub memos_export : ExportWishes → DatabaseValue → Result (List ℕ) Refusal
memos_export wishes database =
    if_held (holds_memos database.head)
    (Ok (memos_text (exported_memos wishes.privacy database)))

-- its addresses, as cards
abbrev pub cards_export : ExportWishes → DatabaseValue → Result (List ℕ) Refusal
cards_export wishes database =
    if_held (holds_addresses database.head)
    (unless_bad wishes.broken (first_bad_address wishes.privacy database)
    (cards_text (exported_cards wishes.privacy database)))

-- its addresses, or its tasks, as a table
abbrev pub rows_export : TableKind → ExportWishes → DatabaseValue → Result (List ℕ) Refusal
rows_export kind wishes database =
    if_held (table.is_of_kind kind database.head)
    (unless_bad wishes.broken (table.first_bad_item kind wishes.privacy database)
    (table_text marks.Absent (table.exported_rows kind wishes.privacy database)))

-- its addresses, if it holds any, else its tasks
abbrev pub table_export : ExportWishes → DatabaseValue → Result (List ℕ) Refusal
table_export wishes database =
    if table.is_of_kind rows.Addresses database.head then rows_export rows.Addresses wishes database
    else rows_export rows.Tasks wishes database

-- its tasks, or its dates, as a calendar that is made then
abbrev pub kind_export : Kind → ExportWishes → DatabaseValue → Result (List ℕ) Refusal
kind_export kind wishes database =
    if_held (calendar.is_of_kind kind database.head)
    (unless_bad wishes.broken
    (first_bad (calendar.fault_of kind) wishes.privacy 0 database.records)
    (calendar_text (calendar.source_of wishes.made database)
    (calendar.exported kind wishes.privacy database)))

-- its tasks, if it holds any, else its dates
abbrev pub calendar_export : ExportWishes → DatabaseValue → Result (List ℕ) Refusal
calendar_export wishes database =
    if calendar.is_of_kind Tasks database.head then kind_export Tasks wishes database
    else kind_export Dates wishes database

-- a database in a form
abbrev pub form_export : ExportForm → ExportWishes → DatabaseValue → Result (List ℕ) Refusal
form_export Text wishes database = memos_export wishes database
form_export Cards wishes database = cards_export wishes database
form_export Table wishes database = table_export wishes database
form_export Calendar wishes database = calendar_export wishes database

-- the refusal of a database that gives no text
abbrev pub refusal_by : ExportFault → Refusal
refusal_by fault.CannotExport = Nothing
refusal_by (fault.BadRecord index place) = BadRecord index place
refusal_by fault.NoMemory = Memory

-- a fault of a call that exports is the refusal, or memory ran out
abbrev pub SaysFault : Result (List ℕ) Refusal → ExportFault → Type 0
SaysFault said fault.NoMemory = ⊤
SaysFault said fault = said ≡ Err (refusal_by fault)

-- ---- what is answered

-- the bytes are the file of a database, of which a form is asked, and this is what it gives
pub record IsExport (file : List ℕ) (asked : Option ExportWishes) (said : Result (List ℕ) Refusal)
    : Type 0 where
  pub database : DatabaseValue
  pub read : IsFileText database file
  pub wishes : ExportWishes
  pub wanted : asked ≡ Some wishes
  pub is : form_export wishes.form wishes database ≡ said

-- why there is no text: no form or other flags are asked, or the bytes break a rule; the database
-- gives none; or memory ran out
abbrev pub RefusesExport : List ℕ → Option ExportWishes → Refusal → Type 0
RefusesExport file asked Memory = ⊤
RefusesExport file asked Form =
    (asked ≡ None) ⊎ ((fault : FileFault) × (file_fault file ≡ Some fault))
RefusesExport file asked refusal = IsExport file asked (Err refusal)

-- which record is told of with a refusal; else what was there before
abbrev pub told_by : Refusal → HsBadRecord → HsBadRecord
told_by (BadRecord index place) told = record { index = index; place = place }
told_by _ told = told
