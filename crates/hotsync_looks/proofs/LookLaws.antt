-- Where the source does not fail, the status of a look is the one that the source's bytes give cause for.
use Rattle.std.proofs.lemmas.Grind.{common_steps}
use Rattle.std.proofs.Common.{◌≡◌, ◌⊎◌, ◌<◌, ◌≤◌, ◌∙◌, ap, sym, subst, inl, inr, refl, arith, List, ℕ, length, Ok, Err}
use Rattle.std.specs.Prelude.{Option, IfErr, IfSome, Some, None, Result}
use Rattle.hs_folders.specs.Causes.{Rose}
use Rattle.pdb_values.specs.Databases.{DatabaseValue}
use Rattle.pdb_files.specs.Files.{IsFileText}
use Rattle.pdb_files.specs.declared.bad_kind.BadKind.{BadKind}
use Rattle.pdb_files.proofs.FileLaws.{file-written, one_database}
use Rattle.trace_text.specs.TraceLines.{FrameValue}
use Rattle.trace_check.specs.Judging.{IsVerdict}
use Rattle.trace_check.specs.Readings.{IsBadLine, IsTraceReading}
use Rattle.trace_check.specs.declared.fault.TraceFault.TheVariants.{BadLine}
use Rattle.trace_check.specs.declared.rule.Rule.{Rule}
use Rattle.trace_check.specs.declared.rule.Verdict.{Verdict}
use Rattle.trace_check.specs.declared.rule.Verdict.TheVariants.{Proper, Not}
use Rattle.trace_check.proofs.RuleLaws.{one-verdict}
use Rattle.trace_check.proofs.TraceLaws.{one_reading}
use Rattle.run_words.specs.declared.look.ImportForm.{ImportForm}
use Rattle.run_words.specs.declared.look.Look.{Look}
use Rattle.run_words.specs.declared.look.Look.TheVariants.{Check, Show, Records, Export as Exported, Import, Verify, Picture}
use Rattle.pdb_files.specs.BadKinds.{bad_file}
use Rattle.pdb_files.specs.Faults.{Refuses as FileRefuses, file_fault}
use Rattle.pdb_files.specs.declared.fault.FileFault.{FileFault}
use Rattle.pdb_files.specs.declared.fault.FileFault.TheVariants.{NoMemory as NoMemoryFault}
use Rattle.hotsync_looks.specs.BadFiles.{StandsFor}
use Rattle.handheld_files.specs.BadFiles.{BreaksRule}
use Rattle.cmd_status.specs.declared.status.FileSide.TheVariants.{Source}
use Rattle.hotsync_looks.specs.LookTexts.{BadItem, Cause, Broken, HasBadRecord, Misfit, Unfit, Untraced, Improper, IsCauseOf, IsDatabaseCause, IsDatabaseText, IsImportCause, IsImported, IsUnfit}
use Rattle.hotsync_looks.specs.LookTexts.{IsPageText, IsProperText, IsReadingCause, IsTextOf, IsTraceCause, NoTextSays, Refuses, RefusesDatabase, RefusesImport, RefusesReading, RefusesTrace, SaysOfFile, look_text}
use Rattle.cmd_status.specs.Sources.{source_limit}
use Rattle.hotsync_looks.specs.ExportTexts.{NoText, Absent, OutOfForm}
use Rattle.hotsync_looks.specs.Looks.{IsLook, IsLookRefusal, IsShowable, IsTextIn, SourceShows}
use Rattle.cmd_status.specs.Opening.{Opens, OpensAtMost}
use Rattle.cmd_status.specs.Printed.{IsShown}
use Rattle.cmd_status.proofs.PrintedLaws.{shown_failed}
use Rattle.cmd_status.specs.Told.{SinkTold, SourceTold}
use Rattle.cmd_status.specs.declared.status.Status.{Status}
use Rattle.cmd_status.specs.declared.status.Status.TheVariants.{Done, BadFile, BadRecord, CannotExport, NotProper, TooLong, SourceRead, OutWrite, NoMemory}

-- ---- bytes of a database

-- a database's file breaks no rule
pub file_not_broken : {database : DatabaseValue} {bytes : List ℕ} {kind : BadKind} {place : ℕ} → IsFileText database bytes → BreaksRule bytes kind place → ⊥
file_not_broken {database} {bytes} file broken = grind (arith, file-written database bytes file)

-- bytes break one rule first
same_rule : {bytes : List ℕ} {kind found : BadKind} {place at : ℕ} → BreaksRule bytes kind place → BreaksRule bytes found at
    → (kind ≡ found) × (place ≡ at)
same_rule one other = grind arith

-- what a look makes of the database in these bytes is one thing
same_text : (look : Look) {bytes : List ℕ} (d e : DatabaseValue) {x y : Result (List ℕ) NoText} → IsFileText d bytes → IsFileText e bytes
    → look_text look d ≡ x → look_text look e ≡ y → x ≡ y
same_text look {bytes} d e x_file y_file x y = sym x ∙ (ap (look_text look) (one_database bytes d e x_file y_file) ∙ y)

database_not_refused : (look : Look) (bytes text : List ℕ) (cause : Cause) → IsDatabaseText look bytes text → IsDatabaseCause look bytes cause → ⊥
database_not_refused look bytes text (Broken kind place) is refused = file_not_broken is.file refused
database_not_refused look bytes text (Unfit name) is refused =
    let same : Ok text ≡ Err Absent = same_text look is.database refused.database is.file refused.file is.is refused.no_text in cc
database_not_refused look bytes text (BadItem index place) is refused =
    let same : Ok text ≡ Err (OutOfForm index place) = same_text look is.database refused.database is.file refused.file is.is refused.no_text in cc
database_not_refused look bytes text (Misfit fault) is refused = refused
database_not_refused look bytes text (Untraced line) is refused = refused
database_not_refused look bytes text (Improper rule) is refused = refused

unfit_not_bad : {look : Look} {bytes name : List ℕ} {index place : ℕ} → IsUnfit look name bytes → HasBadRecord look index place bytes → ⊥
unfit_not_bad {look} {bytes} {name} {index} {place} x y =
    let same : Err Absent ≡ Err (OutOfForm index place) = same_text look x.database y.database x.file y.file x.no_text y.no_text in cc

same_bad : {look : Look} {bytes : List ℕ} {index place other at : ℕ} → HasBadRecord look index place bytes → HasBadRecord look other at bytes
    → BadItem index place ≡ BadItem other at
same_bad {look} {bytes} {index} {place} {other} {at} x y =
    let same : Err (OutOfForm index place) ≡ Err (OutOfForm other at) = same_text look x.database y.database x.file y.file x.no_text y.no_text in
    let one : index ≡ other = cc in let two : place ≡ at = cc in λ k. BadItem (one k) (two k)

one_database_cause : (look : Look) (bytes : List ℕ) (a b : Cause) → IsDatabaseCause look bytes a → IsDatabaseCause look bytes b → a ≡ b
one_database_cause look bytes (Broken kind place) (Broken found at) x y =
    let same = same_rule x y in λ k. Broken (same.0 k) (same.1 k)
one_database_cause look bytes (Broken kind place) (Unfit name) x y = absurd (file_not_broken y.file x)
one_database_cause look bytes (Broken kind place) (BadItem index at) x y = absurd (file_not_broken y.file x)
one_database_cause look bytes (Unfit name) (Broken kind place) x y = absurd (file_not_broken x.file y)
one_database_cause look bytes (Unfit name) (Unfit other) x y =
    ap Unfit (sym x.name_is ∙ ap (λ (d : DatabaseValue). d.head.name) (one_database bytes x.database y.database x.file y.file) ∙ y.name_is)
one_database_cause look bytes (Unfit name) (BadItem index place) x y = absurd (unfit_not_bad x y)
one_database_cause look bytes (BadItem index place) (Broken kind at) x y = absurd (file_not_broken x.file y)
one_database_cause look bytes (BadItem index place) (Unfit name) x y = absurd (unfit_not_bad y x)
one_database_cause look bytes (BadItem index place) (BadItem other at) x y = same_bad x y
one_database_cause look bytes (Misfit fault) b x y = absurd x
one_database_cause look bytes (Untraced line) b x y = absurd x
one_database_cause look bytes (Improper rule) b x y = absurd x
one_database_cause look bytes a (Misfit fault) x y = absurd y
one_database_cause look bytes a (Untraced line) x y = absurd y
one_database_cause look bytes a (Improper rule) x y = absurd y

-- ---- bytes of a text of memos

import_not_refused : (bytes file : List ℕ) (cause : Cause) → IsImported bytes file → IsImportCause bytes cause → ⊥
import_not_refused bytes file (Misfit fault) is refused = let same : Ok is.database ≡ Err fault = sym is.read ∙ refused in cc
import_not_refused bytes file cause is refused = refused

one_import_cause : (bytes : List ℕ) (a b : Cause) → IsImportCause bytes a → IsImportCause bytes b → a ≡ b
one_import_cause bytes (Misfit fault) (Misfit other) x y =
    let same : Err fault ≡ Err other = sym x ∙ y in let is : fault ≡ other = cc in ap Misfit is
one_import_cause bytes (Misfit fault) b x y = absurd y
one_import_cause bytes a b x y = absurd x

-- ---- bytes of a trace

read_not_bad : (bytes : List ℕ) (frames : List FrameValue) (line : ℕ) → IsTraceReading bytes (Ok frames) → IsBadLine bytes line → ⊥
read_not_bad bytes frames line read bad = cc (one_reading bytes (Ok frames) (Err (BadLine line)) read bad (λ e. cc) (λ e. cc))

same_frames : (bytes : List ℕ) (a b : List FrameValue) → IsTraceReading bytes (Ok a) → IsTraceReading bytes (Ok b) → a ≡ b
same_frames bytes a b x y = let same : Ok a ≡ Ok b = one_reading bytes (Ok a) (Ok b) x y (λ e. cc) (λ e. cc) in cc

same_line : (bytes : List ℕ) (a b : ℕ) → IsBadLine bytes a → IsBadLine bytes b → a ≡ b
same_line bytes a b x y =
    let same = one_reading bytes (Err (BadLine a)) (Err (BadLine b)) x y (λ e. cc) (λ e. cc) in cc

same_verdict : (bytes : List ℕ) (a b : List FrameValue) (x y : Verdict) → IsTraceReading bytes (Ok a) → IsTraceReading bytes (Ok b)
    → IsVerdict a x → IsVerdict b y → x ≡ y
same_verdict bytes a b x y read other is it = one-verdict b x y (subst (λ frames. IsVerdict frames x) (same_frames bytes a b read other) is) it

trace_not_refused : (bytes text : List ℕ) (cause : Cause) → IsProperText bytes text → IsTraceCause bytes cause → ⊥
trace_not_refused bytes text (Untraced line) is refused = read_not_bad bytes is.frames line is.reading refused
trace_not_refused bytes text (Improper rule) is refused =
    let same : Proper is.requests is.replies ≡ Not rule = same_verdict bytes is.frames refused.frames _ _ is.reading refused.reading is.verdict refused.verdict in cc
trace_not_refused bytes text (Broken kind place) is refused = refused
trace_not_refused bytes text (Unfit name) is refused = refused
trace_not_refused bytes text (BadItem index place) is refused = refused
trace_not_refused bytes text (Misfit fault) is refused = refused

one_trace_cause : (bytes : List ℕ) (a b : Cause) → IsTraceCause bytes a → IsTraceCause bytes b → a ≡ b
one_trace_cause bytes (Untraced line) (Untraced other) x y = ap Untraced (same_line bytes line other x y)
one_trace_cause bytes (Untraced line) (Improper rule) x y = absurd (read_not_bad bytes y.frames line y.reading x)
one_trace_cause bytes (Improper rule) (Untraced line) x y = absurd (read_not_bad bytes x.frames line x.reading y)
one_trace_cause bytes (Improper rule) (Improper other) x y =
    let same : Not rule ≡ Not other = same_verdict bytes x.frames y.frames _ _ x.reading y.reading x.verdict y.verdict in
    let is : rule ≡ other = cc in ap Improper is
one_trace_cause bytes (Broken kind place) b x y = absurd x
one_trace_cause bytes (Unfit name) b x y = absurd x
one_trace_cause bytes (BadItem index place) b x y = absurd x
one_trace_cause bytes (Misfit fault) b x y = absurd x
one_trace_cause bytes a (Broken kind place) x y = absurd y
one_trace_cause bytes a (Unfit name) x y = absurd y
one_trace_cause bytes a (BadItem index place) x y = absurd y
one_trace_cause bytes a (Misfit fault) x y = absurd y

page_not_refused : (bytes text : List ℕ) (cause : Cause) → IsPageText bytes text → IsReadingCause bytes cause → ⊥
page_not_refused bytes text (Untraced line) is refused = read_not_bad bytes is.frames line is.reading refused
page_not_refused bytes text cause is refused = refused

one_reading_cause : (bytes : List ℕ) (a b : Cause) → IsReadingCause bytes a → IsReadingCause bytes b → a ≡ b
one_reading_cause bytes (Untraced line) (Untraced other) x y = ap Untraced (same_line bytes line other x y)
one_reading_cause bytes (Untraced line) b x y = absurd y
one_reading_cause bytes a b x y = absurd x

-- ---- each look

-- a look prints something, or there is a cause why not
text_not_refused : (look : Look) (bytes text : List ℕ) (cause : Cause) → IsTextOf look bytes text → IsCauseOf look bytes cause → ⊥
text_not_refused Check bytes text cause is refused = database_not_refused Check bytes text cause is refused
text_not_refused Show bytes text cause is refused = database_not_refused Show bytes text cause is refused
text_not_refused Records bytes text cause is refused = database_not_refused Records bytes text cause is refused
text_not_refused (Exported export) bytes text cause is refused = database_not_refused (Exported export) bytes text cause is refused
text_not_refused (Import form) bytes text cause is refused = import_not_refused bytes text cause is refused
text_not_refused Verify bytes text cause is refused = trace_not_refused bytes text cause is refused
text_not_refused Picture bytes text cause is refused = page_not_refused bytes text cause is refused

-- and it is one
one_cause : (look : Look) (bytes : List ℕ) (a b : Cause) → IsCauseOf look bytes a → IsCauseOf look bytes b → a ≡ b
one_cause Check bytes a b x y = one_database_cause Check bytes a b x y
one_cause Show bytes a b x y = one_database_cause Show bytes a b x y
one_cause Records bytes a b x y = one_database_cause Records bytes a b x y
one_cause (Exported export) bytes a b x y = one_database_cause (Exported export) bytes a b x y
one_cause (Import form) bytes a b x y = one_import_cause bytes a b x y
one_cause Verify bytes a b x y = one_trace_cause bytes a b x y
one_cause Picture bytes a b x y = one_reading_cause bytes a b x y

module _ (look : Look) (file bytes : List ℕ) where
  look_too_long : (status : Status) (Failed : Type 0) → SourceShows look file status bytes → (status ≡ SourceRead → Failed)
      → source_limit < length bytes → ¬ Failed → (status ≡ TooLong) ⊎ (status ≡ NoMemory)
  look_too_long Done Failed shows failed long none = let short = shows.short in absurd (omega arith)
  look_too_long OutWrite Failed shows failed long none = let short = shows.short in absurd (omega arith)
  look_too_long TooLong Failed shows failed long none = inl refl
  look_too_long SourceRead Failed shows failed long none = absurd (none (failed refl))
  look_too_long NoMemory Failed shows failed long none = inr refl
  look_too_long status Failed shows failed long none = let short = shows.short in absurd (omega arith)

  look_refuses : (status : Status) (Failed : Type 0) → SourceShows look file status bytes → (status ≡ SourceRead → Failed)
      → (cause : Cause) → length bytes ≤ source_limit → IsCauseOf look bytes cause → ¬ Failed → SaysOfFile look file cause status ⊎ (status ≡ NoMemory)
  look_refuses Done Failed shows failed cause few is none = absurd (text_not_refused look bytes shows.text cause shows.is is)
  look_refuses OutWrite Failed shows failed cause few is none = absurd (text_not_refused look bytes shows.text cause shows.is is)
  look_refuses TooLong Failed shows failed cause few is none = absurd (omega (arith, shows, few))
  look_refuses SourceRead Failed shows failed cause few is none = absurd (none (failed refl))
  look_refuses NoMemory Failed shows failed cause few is none = inr refl
  look_refuses status Failed shows failed cause few is none =
      inl (subst (λ c. SaysOfFile look file c status) (one_cause look bytes shows.cause cause shows.is is) shows.says)

  look_complete : (status : Status) (Failed Out : Type 0) → SourceShows look file status bytes → (status ≡ SourceRead → Failed)
      → (status ≡ OutWrite → Out) → IsShowable look bytes → ¬ Failed → ¬ Out → (status ≡ Done) ⊎ (status ≡ NoMemory)
  look_complete Done Failed Out shows failed out readable none free = inl refl
  look_complete OutWrite Failed Out shows failed out readable none free = absurd (free (out refl))
  look_complete TooLong Failed Out shows failed out readable none free = let short = readable.short in absurd (omega arith)
  look_complete SourceRead Failed Out shows failed out readable none free = absurd (none (failed refl))
  look_complete NoMemory Failed Out shows failed out readable none free = inr refl
  look_complete status Failed Out shows failed out readable none free = absurd (text_not_refused look bytes readable.text shows.cause readable.is shows.is)

  -- a refusal of these bytes shows its cause
  refusal_shows : (status : Status) → length bytes ≤ source_limit → Refuses look file bytes status → SourceShows look file status bytes
  refusal_shows NoMemory few is = tt
  refusal_shows Done few (inl is) = absurd (silent is.0 is.2)
    where
      silent : (cause : Cause) → SaysOfFile look file cause Done → ⊥
      silent cause says = grind (arith, common_steps)
  refusal_shows OutWrite few (inl is) = absurd (silent is.0 is.2)
    where
      silent : (cause : Cause) → SaysOfFile look file cause OutWrite → ⊥
      silent cause says = grind (arith, common_steps)
  refusal_shows TooLong few (inl is) = absurd (silent is.0 is.2)
    where
      silent : (cause : Cause) → SaysOfFile look file cause TooLong → ⊥
      silent cause says = grind (arith, common_steps)
  refusal_shows SourceRead few is = tt
  refusal_shows status few (inl is) = record { short = few; cause = is.0; is = is.1; says = is.2 }
  refusal_shows status few (inr is) = cc is

  -- and is one of those that a look gives cause for
  pub refusal_known : (status : Status) → Refuses look file bytes status → IsLookRefusal status
  refusal_known status (inl is) = known is.0 status is.2
    where
      known : (cause : Cause) (status : Status) → SaysOfFile look file cause status → IsLookRefusal status
      known cause status says = grind (arith, common_steps)
  refusal_known status (inr is) = subst IsLookRefusal (sym is) tt

  -- and does not blame the source
  pub refusal_blames : (status : Status) (P : Type 0) → Refuses look file bytes status → status ≡ SourceRead → P
  refusal_blames status P (inl is) e = absurd (silent is.0 (subst (λ s. SaysOfFile look file is.0 s) e is.2))
    where
      silent : (cause : Cause) → SaysOfFile look file cause SourceRead → ⊥
      silent cause says = grind (arith, common_steps)
  refusal_blames status P (inr is) e = cc

-- ---- the calls below

-- the status of bytes that are no database's file
pub bad_file_refuses : (A : Type 0) (look : Look) (file bytes : List ℕ) (rule : FileFault) (status : Status)
    → FileRefuses {A = A} (Err rule) (file_fault bytes) → StandsFor Source file rule status → RefusesDatabase look file bytes status
bad_file_refuses A look file bytes rule (BadFile side name kind place) why stands =
    inl (Broken kind place, broken rule why stands.2, (stands.0, stands.1, refl, refl))
  where
    broken : (rule : FileFault) → FileRefuses {A = A} (Err rule) (file_fault bytes) → bad_file rule ≡ Some (kind, place) → BreaksRule bytes kind place
    broken NoMemoryFault why is = cc is
    broken rule why is = record { rule = rule; first = why; is = is }
bad_file_refuses A look file bytes rule NoMemory why stands = inr refl
bad_file_refuses A look file bytes rule status why stands = absurd stands

-- the status of a trace that breaks a rule
pub verdict_refuses : (bytes : List ℕ) (frames : List FrameValue) (verdict : Verdict) (rule : Rule) → IsTraceReading bytes (Ok frames)
    → IsVerdict frames verdict → verdict ≡ Not rule → RefusesTrace bytes (NotProper rule)
verdict_refuses bytes frames verdict rule read is e =
    inl (rule, record { frames = frames; reading = read; verdict = subst (λ v. IsVerdict frames v) e is }, refl)

-- what is refused as a text of memos is refused by the look that takes it as one
import_refuses : (form : ImportForm) (file bytes : List ℕ) (status : Status) → RefusesImport bytes status → Refuses (Import form) file bytes status
import_refuses form file bytes status (inl is) = inl (Misfit is.0, is.1, is.2)
import_refuses form file bytes status (inr is) = inr is

pub import_result : {T : Type 0} (result : Result T Status) (look : Look) (form : ImportForm) (file bytes : List ℕ) → look ≡ Import form
    → IfErr result (RefusesImport bytes) → IfErr result (Refuses look file bytes)
import_result (Ok text) look form file bytes is refuses = tt
import_result (Err status) look form file bytes is refuses = subst (λ l. Refuses l file bytes status) (sym is) (import_refuses form file bytes status refuses)

-- what is refused as a trace is refused by the look that takes it as one
reading_refuses : (file bytes : List ℕ) (status : Status) → RefusesReading bytes status → Refuses Picture file bytes status
reading_refuses file bytes status (inl is) = inl (Untraced is.0, is.1, subst (λ s. SaysOfFile Picture file (Untraced is.0) s) (sym is.2) refl)
reading_refuses file bytes status (inr is) = inr is

trace_refuses : (file bytes : List ℕ) (status : Status) → RefusesTrace bytes status → Refuses Verify file bytes status
trace_refuses file bytes status (inl is) = inl (Improper is.0, is.1, subst (λ s. SaysOfFile Verify file (Improper is.0) s) (sym is.2) refl)
trace_refuses file bytes status (inr (inl is)) = inl (Untraced is.0, is.1, subst (λ s. SaysOfFile Verify file (Untraced is.0) s) (sym is.2) refl)
trace_refuses file bytes status (inr (inr is)) = inr is

pub reading_result : {T : Type 0} (result : Result T Status) (look : Look) (file bytes : List ℕ) → look ≡ Picture
    → IfErr result (RefusesReading bytes) → IfErr result (Refuses look file bytes)
reading_result (Ok text) look file bytes is refuses = tt
reading_result (Err status) look file bytes is refuses = subst (λ l. Refuses l file bytes status) (sym is) (reading_refuses file bytes status refuses)

pub trace_result : {T : Type 0} (result : Result T Status) (look : Look) (file bytes : List ℕ) → look ≡ Verify
    → IfErr result (RefusesTrace bytes) → IfErr result (Refuses look file bytes)
trace_result (Ok text) look file bytes is refuses = tt
trace_result (Err status) look file bytes is refuses = subst (λ l. Refuses l file bytes status) (sym is) (trace_refuses file bytes status refuses)

-- the status of a database that has no text
no_text_refuses : (look : Look) (file bytes : List ℕ) (database : DatabaseValue) (status : Status) → IsFileText database bytes
    → NoTextSays look database status → RefusesDatabase look file bytes status
no_text_refuses look file bytes database (CannotExport name form) is says =
    inl (Unfit name, record { database = database; file = is; name_is = says.1; no_text = says.2 }, (says.0, refl))
no_text_refuses look file bytes database (BadRecord index place) is says =
    inl (BadItem index place, record { database = database; file = is; no_text = says }, (refl, refl))
no_text_refuses look file bytes database NoMemory is says = inr refl
no_text_refuses look file bytes database status is says = absurd says

pub no_text_result : {T : Type 0} (result : Result T Status) (look : Look) (file bytes : List ℕ) (database : DatabaseValue) → IsFileText database bytes
    → IfErr result (NoTextSays look database) → IfErr result (RefusesDatabase look file bytes)
no_text_result (Ok text) look file bytes database is says = tt
no_text_result (Err status) look file bytes database is says = no_text_refuses look file bytes database status is says

-- what the source tells of its bytes
pub refusal_told : (look : Look) (file bytes : List ℕ) (status : Status) (left : Option (List ℕ)) → length bytes ≤ source_limit
    → Refuses look file bytes status → IfSome left (λ told. bytes ≡ told) → IfSome left (SourceShows look file status)
refusal_told look file bytes status None few is told = tt
refusal_told look file bytes status (Some told) few is same =
    subst (SourceShows look file status) same (refusal_shows look file bytes status few is)

pub text_told : (look : Look) (bytes text : List ℕ) (left : Option (List ℕ)) → length bytes ≤ source_limit → IsTextOf look bytes text
    → IfSome left (λ told. bytes ≡ told) → IsTextIn look left text
text_told look bytes text left few is same = record { bytes = bytes; told = turned left same; short = few; is = is }
  where
    turned : (left : Option (List ℕ)) → IfSome left (λ told. bytes ≡ told) → IfSome left (λ told. told ≡ bytes)
    turned None same = tt
    turned (Some told) same = sym same

-- a look whose status shows its cause is one that is known of
look_is : {look : Look} (file : List ℕ) (source source_after : SourceTold) {out out_after err err_after : SinkTold} {status : Status}
    → IsLookRefusal status ⊎ (status ≡ Done) ⊎ (status ≡ OutWrite) → IfSome source.left (SourceShows look file status)
    → (status ≡ SourceRead → Rose source.faults source_after.faults) → OpensAtMost file source.paths source_after.paths
    → (status ≡ Done → Opens file source.paths source_after.paths) → IsShown (IsTextIn look source.left) out out_after err err_after status
    → IsLook look file source source_after out out_after err err_after status
look_is {look} file source source_after {out} {out_after} {err} {err_after} {status} ended shown failed path opened printed = record {
  ended = ended;
  shown = shown;
  source_failed = failed;
  source_path = path;
  source_opened = opened;
  printed = printed;
  complete = λ bytes is readable. look_complete look file bytes status (Rose source.faults source_after.faults) (Rose out.faults out_after.faults)
      (rw is at shown) failed (shown_failed (IsTextIn look source.left) printed) readable;
  refused = λ bytes cause is few has. look_refuses look file bytes status (Rose source.faults source_after.faults) (rw is at shown) failed cause few has;
  too_long = λ bytes is long. look_too_long look file bytes status (Rose source.faults source_after.faults) (rw is at shown) failed long;
}

readable_by : {look : Look} {text : List ℕ} (left : Option (List ℕ)) → IsTextIn look left text → IfSome left (IsShowable look)
readable_by None is = tt
readable_by {look} {text} (Some told) is =
    subst (IsShowable look) (sym is.told) (record { short = is.short; text = text; is = is.is })

readable_shows : {look : Look} (file : List ℕ) {status : Status} → (status ≡ Done) ⊎ (status ≡ OutWrite) ⊎ (status ≡ NoMemory) → (bytes : List ℕ)
    → IsShowable look bytes → SourceShows look file status bytes
readable_shows file e bytes readable = grind (arith, common_steps)

some_weaken : (P Q : List ℕ → Type 0) (left : Option (List ℕ)) → ((bytes : List ℕ) → P bytes → Q bytes) → IfSome left P → IfSome left Q
some_weaken P Q left leads p = grind (arith, common_steps)

done_ended : {status : Status} → (status ≡ Done) ⊎ (status ≡ OutWrite) ⊎ (status ≡ NoMemory)
    → IsLookRefusal status ⊎ (status ≡ Done) ⊎ (status ≡ OutWrite)
done_ended e = grind (arith, common_steps)

done_not_failed : {status : Status} (Failed : Type 0) → (status ≡ Done) ⊎ (status ≡ OutWrite) ⊎ (status ≡ NoMemory) → status ≡ SourceRead → Failed
done_not_failed Failed e failed = grind (arith, common_steps)

-- a look that has a text
pub look_done : {look : Look} {text : List ℕ} (file : List ℕ) (source source_after : SourceTold) {out out_after err err_after : SinkTold} {status : Status}
    → (status ≡ Done) ⊎ (status ≡ OutWrite) ⊎ (status ≡ NoMemory) → IsTextIn look source.left text → OpensAtMost file source.paths source_after.paths
    → Opens file source.paths source_after.paths → IsShown (IsTextIn look source.left) out out_after err err_after status
    → IsLook look file source source_after out out_after err err_after status
look_done {look} file source source_after {status} ended text path opened printed =
    look_is file source source_after (done_ended ended)
    (some_weaken (IsShowable look) (SourceShows look file status) source.left (readable_shows file ended) (readable_by source.left text))
    (done_not_failed (Rose source.faults source_after.faults) ended) path (λ done. opened) printed

refused_is : (P : Status → Type 0) {refusal status : Status} → P refusal → P NoMemory → (status ≡ refusal) ⊎ (status ≡ NoMemory) → P status
refused_is P one other e = grind (arith, common_steps)

pub memory_shows : (look : Look) (file : List ℕ) (left : Option (List ℕ)) → IfSome left (SourceShows look file NoMemory)
memory_shows look file left = grind (arith, common_steps)

refused_not_done : (status : Status) (P : Type 0) → IsLookRefusal status → status ≡ Done → P
refused_not_done status P refused done = absurd (rw done at refused)

-- a look that was refused
pub look_refused : {look : Look} (file : List ℕ) (source source_after : SourceTold) {out out_after err err_after : SinkTold} {refusal status : Status}
    → (status ≡ refusal) ⊎ (status ≡ NoMemory) → IsLookRefusal refusal → IfSome source.left (SourceShows look file refusal)
    → (refusal ≡ SourceRead → Rose source.faults source_after.faults) → OpensAtMost file source.paths source_after.paths
    → IsShown (IsTextIn look source.left) out out_after err err_after status → IsLook look file source source_after out out_after err err_after status
look_refused {look} file source source_after {status} ended refused shown failed path printed =
    let is = refused_is IsLookRefusal refused tt ended in
    look_is file source source_after (inl is)
    (refused_is (λ status. IfSome source.left (SourceShows look file status)) shown (memory_shows look file source.left) ended)
    (refused_is (λ status. status ≡ SourceRead → Rose source.faults source_after.faults) failed (λ no. cc) ended) path
    (refused_not_done status (Opens file source.paths source_after.paths) is) printed
