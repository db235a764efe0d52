-- What standard output took of a call.
use Rattle.std.specs.Prelude.{◌≡◌, ◌⊎◌, ⊤, ℕ, List, ◌++◌, Option}
use Rattle.std.specs.Option.{option_map}
use Rattle.hs_folders.specs.Appends.{AppendsPrefix}
use Rattle.hs_folders.specs.Causes.{Rose}
use Rattle.cmd_status.specs.Lines.{no_memory_line, refusal_line}
use Rattle.cmd_status.specs.Told.{SinkTold}
use Rattle.cmd_status.specs.declared.status.Status.{Status}
use Rattle.cmd_status.specs.declared.status.Status.TheVariants.{Done, OutWrite, NoMemory}

-- all of these lines were taken
abbrev pub TookAll : List ℕ → Option (List ℕ) → Option (List ℕ) → Type 0
TookAll lines old new = new ≡ option_map (λ taken. taken ++ lines) old

-- all of these lines were taken, or a first part of them by a sink that failed
abbrev pub TookLines : List ℕ → Type 0 → Option (List ℕ) → Option (List ℕ) → Type 0
TookLines lines Failed old new = TookAll lines old new ⊎ (Failed × AppendsPrefix old new lines)

-- a first part of these lines was taken, and then a first part of the line that says so
pub record TookBeforeNoMemory (lines : List ℕ) (old new : Option (List ℕ)) : Type 0 where
  pub between : Option (List ℕ)
  pub first : AppendsPrefix old between lines
  pub then : AppendsPrefix between new no_memory_line

-- the text of what was done, or the line of a refusal
abbrev pub IsSomeLines : (List ℕ → Type 0) → List ℕ → Type 0
IsSomeLines IsText lines = IsText lines ⊎ ((refusal : Status) × (lines ≡ refusal_line refusal))

-- some lines, as far as memory served, and then the line that says that it did not
pub record TookSomeLines (IsText : List ℕ → Type 0) (old new : Option (List ℕ)) : Type 0 where
  pub lines : List ℕ
  pub are_lines : IsSomeLines IsText lines
  pub took : TookBeforeNoMemory lines old new

-- all of the text of what was done was taken
pub record TookText (IsText : List ℕ → Type 0) (old new : Option (List ℕ)) : Type 0 where
  pub text : List ℕ
  pub is_text : IsText text
  pub took : TookAll text old new

-- a first part of it was taken
pub record TookPart (IsText : List ℕ → Type 0) (old new : Option (List ℕ)) : Type 0 where
  pub text : List ℕ
  pub is_text : IsText text
  pub took : AppendsPrefix old new text

-- a status that is a refusal with a line of its own
abbrev pub IsRefusal : Status → Type 0
IsRefusal Done = ⊥
IsRefusal OutWrite = ⊥
IsRefusal NoMemory = ⊥
IsRefusal _ = ⊤

-- the status once its lines were to be printed: it stands, unless memory ran out or what was done
-- could not be said
abbrev pub IsPrintedStatus : Status → Status → Type 0
IsPrintedStatus status printed =
    (printed ≡ status) ⊎ (printed ≡ NoMemory) ⊎ ((status ≡ Done) × (printed ≡ OutWrite))

-- Standard output took exactly the lines of the status, or a first part of them where it failed. It
-- was not opened.
pub record IsPrinted (IsText : List ℕ → Type 0) (out out_after : SinkTold)
    (status : Status) : Type 0 where
  pub done : status ≡ Done → TookText IsText out.taken out_after.taken
  pub in_part : status ≡ OutWrite → TookPart IsText out.taken out_after.taken
  pub refusal : IsRefusal status
      → TookLines (refusal_line status) (Rose out.faults out_after.faults) out.taken out_after.taken
  pub no_memory : status ≡ NoMemory → TookSomeLines IsText out.taken out_after.taken
  pub failed : status ≡ OutWrite → Rose out.faults out_after.faults
  pub path : out_after.paths ≡ out.paths

-- ---- a result beside what is said of it

-- standard output took the text of what was done, and standard error nothing
pub record IsTextShown (IsText : List ℕ → Type 0) (out out_after err err_after : SinkTold)
    (status : Status) : Type 0 where
  pub ended : (status ≡ Done) ⊎ (status ≡ OutWrite) ⊎ (status ≡ NoMemory)
  pub printed : IsPrinted IsText out out_after status
  pub apart : err_after ≡ err

-- standard error took the line of a refusal, and standard output nothing
pub record IsLineShown (out out_after err err_after : SinkTold) (status : Status) : Type 0 where
  pub printed : IsPrinted (λ text. ⊥) err err_after status
  pub apart : out_after ≡ out

-- so a result has no line of a refusal in it
abbrev pub IsShown : (List ℕ → Type 0) → SinkTold → SinkTold → SinkTold → SinkTold → Status
    → Type 0
IsShown IsText out out_after err err_after status =
    IsTextShown IsText out out_after err err_after status
    ⊎ IsLineShown out out_after err err_after status
