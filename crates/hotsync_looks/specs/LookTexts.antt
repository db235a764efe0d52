-- What a look makes of the bytes of a file: a text, or a refusal.
use Rattle.std.specs.Prelude.{◌≡◌, ◌⊎◌, ⊤, ℕ, List, ◌++◌, codes, Result, Ok, Err, string_bytes}
use Rattle.std.specs.Fmt.{decimal}
use Rattle.std.specs.declared.alloc.Global.{Global}
use Rattle.pdb_values.specs.Databases.{DatabaseValue}
use Rattle.pdb_files.specs.declared.bad_kind.BadKind.{BadKind}
use Rattle.file_text.specs.Counts.{check_text}
use Rattle.file_text.specs.Listings.{full_text, show_text}
use Rattle.pdb_files.specs.Files.{IsFileText, canonical}
use Rattle.palm_records.specs.declared.fault.ExportFault.{ExportFault}
use Rattle.palm_records.specs.declared.fault.ExportFault.TheVariants as export
use Rattle.memo_texts.specs.Databases.{import_in}
use Rattle.memo_texts.specs.declared.fault.ImportFault.{ImportFault}
use Rattle.memo_texts.specs.declared.fault.ImportFault.TheVariants as imports
use Rattle.trace_text.specs.TraceLines.{FrameValue}
use Rattle.trace_check.specs.Judging.{IsVerdict}
use Rattle.trace_check.specs.Readings.{IsBadLine, IsTraceReading}
use Rattle.trace_page.specs.Pages.{page_text}
use Rattle.trace_check.specs.declared.rule.Rule.{Rule}
use Rattle.trace_check.specs.declared.rule.Verdict.TheVariants.{Proper, Not}
use Rattle.run_words.specs.declared.look.Look.{Look}
use Rattle.run_words.specs.declared.look.Look.TheVariants.{Check, Show, Records, Export as Exported, Import, Verify, Picture}
use Rattle.run_words.specs.declared.look.ExportForm.{ExportForm}
use Rattle.handheld_files.specs.BadFiles.{BreaksRule}
use Rattle.hotsync_looks.specs.ExportTexts.{NoText, Absent, OutOfForm, form_export}
use Rattle.cmd_status.specs.Lines.{line_feed}
use Rattle.cmd_status.specs.declared.status.FileSide.TheVariants.{Source}
use Rattle.cmd_status.specs.declared.status.Status.{Status}
use Rattle.cmd_status.specs.declared.status.Status.TheVariants.{BadFile, BadRecord, BadText, BadTrace, CannotExport, NoMemory, NotProper, Overfull}
use Rattle.cmd_status.specs.declared.status.Surplus.TheVariants.{Categories, Records as TooManyOf}

-- ---- a database

-- what a look prints of a database, or why it prints nothing
abbrev pub look_text : Look → DatabaseValue → Result (List ℕ) NoText
look_text Check database = Ok (check_text database)
look_text Show database = Ok (show_text database)
look_text Records database = Ok (full_text database)
look_text (Exported export) database = form_export export export.form database
look_text _ database = Err Absent

-- a look at the entries of a database, and not at their number alone
abbrev pub LooksAtEntries : Look → Type 0
LooksAtEntries Check = ⊥
LooksAtEntries (Import _) = ⊥
LooksAtEntries Verify = ⊥
LooksAtEntries Picture = ⊥
LooksAtEntries _ = ⊤

-- a look that exports in this form
abbrev pub HasForm : ExportForm → Look → Type 0
HasForm form (Exported export) = export.form ≡ form
HasForm form _ = ⊥

-- the bytes are a database's file, of which the look prints this
pub record IsDatabaseText (look : Look) (bytes text : List ℕ) : Type 0 where
  pub database : DatabaseValue
  pub file : IsFileText database bytes
  pub is : look_text look database ≡ Ok text

-- the bytes are the file of a database of this name, which holds nothing that the look prints
pub record IsUnfit (look : Look) (name bytes : List ℕ) : Type 0 where
  pub database : DatabaseValue
  pub file : IsFileText database bytes
  pub name_is : database.head.name ≡ name
  pub no_text : look_text look database ≡ Err Absent

-- the bytes are the file of a database whose first record that is out of its form is this one, at
-- this place in it
pub record HasBadRecord (look : Look) (index place : ℕ) (bytes : List ℕ) : Type 0 where
  pub database : DatabaseValue
  pub file : IsFileText database bytes
  pub no_text : look_text look database ≡ Err (OutOfForm index place)

-- what a status says of a database of which a look prints nothing
abbrev pub NoTextSays : Look → DatabaseValue → Status → Type 0
NoTextSays look database (CannotExport name form) =
    HasForm form look × (database.head.name ≡ name) × (look_text look database ≡ Err Absent)
NoTextSays look database (BadRecord index place) =
    look_text look database ≡ Err (OutOfForm index place)
NoTextSays look database NoMemory = ⊤
NoTextSays look database _ = ⊥

-- what it makes of a call that there is no text of the database of this name
abbrev pub export_status : List ℕ → ExportForm → ExportFault → Status
export_status name form export.CannotExport = CannotExport name form
export_status name form (export.BadRecord index place) = BadRecord index place
export_status name form export.NoMemory = NoMemory

-- ---- a text of memos

-- the bytes are the text of the memos of a database, whose file this is
pub record IsImported (bytes file : List ℕ) : Type 0 where
  pub database : DatabaseValue
  pub read : import_in bytes ≡ Ok database
  pub is : file ≡ canonical database

-- ---- a trace

-- `proper requests N replies M`
unfoldable pub proper_line : ℕ → ℕ → List ℕ
proper_line requests replies =
    codes "proper requests "
    ++ (decimal requests ++ (codes " replies " ++ (decimal replies ++ line_feed)))

-- the bytes are the text of a proper trace, and this line has the numbers of its whole requests and
-- replies
pub record IsProperText (bytes text : List ℕ) : Type 0 where
  pub frames : List FrameValue
  pub reading : IsTraceReading bytes (Ok frames)
  pub requests : ℕ
  pub replies : ℕ
  pub verdict : IsVerdict frames (Proper requests replies)
  pub is : text ≡ proper_line requests replies

-- the bytes are the text of a trace whose first broken rule is this
pub record BreaksFirst (rule : Rule) (bytes : List ℕ) : Type 0 where
  pub frames : List FrameValue
  pub reading : IsTraceReading bytes (Ok frames)
  pub verdict : IsVerdict frames (Not rule)

-- the bytes are the text of a trace, and this is its page
pub record IsPageText (bytes text : List ℕ) : Type 0 where
  pub frames : List FrameValue
  pub reading : IsTraceReading bytes (Ok frames)
  pub is : text ≡ page_text frames

-- ---- each look

-- what a look prints of the bytes of a file
abbrev pub IsTextOf : Look → List ℕ → List ℕ → Type 0
IsTextOf Check bytes text = IsDatabaseText Check bytes text
IsTextOf Show bytes text = IsDatabaseText Show bytes text
IsTextOf Records bytes text = IsDatabaseText Records bytes text
IsTextOf (Exported export) bytes text = IsDatabaseText (Exported export) bytes text
IsTextOf (Import form) bytes text = IsImported bytes text
IsTextOf Verify bytes text = IsProperText bytes text
IsTextOf Picture bytes text = IsPageText bytes text

-- why a look prints nothing of the bytes of a file: they break a rule of the format of a database,
-- are a database that holds nothing of the kind, or one with a record that is out of its form, are
-- no text of memos, have a line that is none of a trace, or are a trace that breaks a rule
pub data Cause : Type 0 where
  Broken : BadKind → ℕ → Cause
  Unfit : List ℕ → Cause
  BadItem : ℕ → ℕ → Cause
  Misfit : ImportFault → Cause
  Untraced : ℕ → Cause
  Improper : Rule → Cause

-- bytes that are looked at as a database
abbrev pub IsDatabaseCause : Look → List ℕ → Cause → Type 0
IsDatabaseCause look bytes (Broken kind place) = BreaksRule bytes kind place
IsDatabaseCause look bytes (Unfit name) = IsUnfit look name bytes
IsDatabaseCause look bytes (BadItem index place) = HasBadRecord look index place bytes
IsDatabaseCause look bytes _ = ⊥

-- bytes that are read as a text of memos
abbrev pub IsImportCause : List ℕ → Cause → Type 0
IsImportCause bytes (Misfit fault) = import_in bytes ≡ Err fault
IsImportCause bytes _ = ⊥

-- bytes that are read as a trace
abbrev pub IsReadingCause : List ℕ → Cause → Type 0
IsReadingCause bytes (Untraced line) = IsBadLine bytes line
IsReadingCause bytes _ = ⊥

-- bytes of which the trace is judged
abbrev pub IsTraceCause : List ℕ → Cause → Type 0
IsTraceCause bytes (Improper rule) = BreaksFirst rule bytes
IsTraceCause bytes cause = IsReadingCause bytes cause

-- why a look prints nothing of these bytes
abbrev pub IsCauseOf : Look → List ℕ → Cause → Type 0
IsCauseOf Check bytes cause = IsDatabaseCause Check bytes cause
IsCauseOf Show bytes cause = IsDatabaseCause Show bytes cause
IsCauseOf Records bytes cause = IsDatabaseCause Records bytes cause
IsCauseOf (Exported export) bytes cause = IsDatabaseCause (Exported export) bytes cause
IsCauseOf (Import form) bytes cause = IsImportCause bytes cause
IsCauseOf Verify bytes cause = IsTraceCause bytes cause
IsCauseOf Picture bytes cause = IsReadingCause bytes cause

-- a status that says why a text of memos makes no database
abbrev pub SaysMisfit : ImportFault → Status → Type 0
SaysMisfit (imports.BadText line flaw) (BadText found told) = (found ≡ line) × (told ≡ flaw)
SaysMisfit imports.TooManyCategories (Overfull what) = what ≡ Categories
SaysMisfit imports.TooManyRecords (Overfull what) = what ≡ TooManyOf
SaysMisfit _ _ = ⊥

-- a status that says so, where the file bears this name
abbrev pub SaysOfFile : Look → List ℕ → Cause → Status → Type 0
SaysOfFile look file (Broken kind place) (BadFile side name found at) =
    (side ≡ Source) × (string_bytes {Z = Global} name ≡ file) × (found ≡ kind) × (at ≡ place)
SaysOfFile look file (Unfit name) (CannotExport found form) = HasForm form look × (found ≡ name)
SaysOfFile look file (BadItem index place) (BadRecord found at) = (found ≡ index) × (at ≡ place)
SaysOfFile look file (Misfit fault) status = SaysMisfit fault status
SaysOfFile look file (Untraced line) (BadTrace found) = found ≡ line
SaysOfFile look file (Improper rule) (NotProper found) = found ≡ rule
SaysOfFile look file _ _ = ⊥

-- a status of bytes of which a look prints nothing: it says why, or memory ran out
abbrev pub Refuses : Look → List ℕ → List ℕ → Status → Type 0
Refuses look file bytes status =
    ((cause : Cause) × IsCauseOf look bytes cause × SaysOfFile look file cause status)
    ⊎ (status ≡ NoMemory)

-- the same where the bytes are looked at as a database
abbrev pub RefusesDatabase : Look → List ℕ → List ℕ → Status → Type 0
RefusesDatabase look file bytes status =
    ((cause : Cause) × IsDatabaseCause look bytes cause × SaysOfFile look file cause status)
    ⊎ (status ≡ NoMemory)

-- the same where they are read as a text of memos
abbrev pub RefusesImport : List ℕ → Status → Type 0
RefusesImport bytes status =
    ((fault : ImportFault) × (import_in bytes ≡ Err fault) × SaysMisfit fault status)
    ⊎ (status ≡ NoMemory)

-- the same where they are read as a trace
abbrev pub RefusesReading : List ℕ → Status → Type 0
RefusesReading bytes status =
    ((line : ℕ) × IsBadLine bytes line × (status ≡ BadTrace line)) ⊎ (status ≡ NoMemory)

-- the same where the trace is judged
abbrev pub RefusesTrace : List ℕ → Status → Type 0
RefusesTrace bytes status =
    ((rule : Rule) × BreaksFirst rule bytes × (status ≡ NotProper rule))
    ⊎ RefusesReading bytes status
