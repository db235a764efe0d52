-- What holds of a look at a file: the source, standard output and standard error before it, and all
-- of them after it.
use Rattle.std.specs.Prelude.{◌≡◌, ◌⊎◌, ⊤, ◌<◌, ◌≤◌, ℕ, List, length, Option, Some, IfSome}
use Rattle.hs_folders.specs.Causes.{Rose}
use Rattle.run_words.specs.declared.look.Look.{Look}
use Rattle.hotsync_looks.specs.LookTexts.{Cause, IsCauseOf, IsTextOf, SaysOfFile}
use Rattle.cmd_status.specs.Sources.{source_limit}
use Rattle.cmd_status.specs.Opening.{Opens, OpensAtMost}
use Rattle.cmd_status.specs.Printed.{IsShown}
use Rattle.cmd_status.specs.Told.{SinkTold, SourceTold}
use Rattle.cmd_status.specs.declared.status.Status.{Status}
use Rattle.cmd_status.specs.declared.status.Status.TheVariants.{Done, BadFile, BadRecord, BadText, BadTrace, CannotExport, NotProper, Overfull, SourceRead, TooLong, OutWrite, NoMemory}

-- the text of a look at these bytes, which the source holds where it tells what it holds
pub record IsTextIn (look : Look) (left : Option (List ℕ)) (text : List ℕ) : Type 0 where
  pub bytes : List ℕ
  pub told : IfSome left (λ left. left ≡ bytes)
  pub short : length bytes ≤ source_limit
  pub is : IsTextOf look bytes text

-- bytes that are not too many, and of which the look prints something
pub record IsShowable (look : Look) (bytes : List ℕ) : Type 0 where
  pub short : length bytes ≤ source_limit
  pub text : List ℕ
  pub is : IsTextOf look bytes text

-- bytes that are not too many, and why the look prints nothing of them, as the status says
pub record RefusesLook (look : Look) (file : List ℕ) (status : Status) (bytes : List ℕ)
    : Type 0 where
  pub short : length bytes ≤ source_limit
  pub cause : Cause
  pub is : IsCauseOf look bytes cause
  pub says : SaysOfFile look file cause status

-- what the source's bytes show of the cause of each status
abbrev pub SourceShows : Look → List ℕ → Status → List ℕ → Type 0
SourceShows look file Done bytes = IsShowable look bytes
SourceShows look file OutWrite bytes = IsShowable look bytes
SourceShows look file TooLong bytes = source_limit < length bytes
SourceShows look file SourceRead bytes = ⊤
SourceShows look file NoMemory bytes = ⊤
SourceShows look file status bytes = RefusesLook look file status bytes

-- one of those that a look gives cause for
abbrev pub IsLookRefusal : Status → Type 0
IsLookRefusal (BadFile _ _ _ _) = ⊤
IsLookRefusal (CannotExport _ _) = ⊤
IsLookRefusal (BadRecord _ _) = ⊤
IsLookRefusal (BadText _ _) = ⊤
IsLookRefusal (Overfull _) = ⊤
IsLookRefusal (BadTrace _) = ⊤
IsLookRefusal (NotProper _) = ⊤
IsLookRefusal SourceRead = ⊤
IsLookRefusal TooLong = ⊤
IsLookRefusal NoMemory = ⊤
IsLookRefusal _ = ⊥

-- What is known of it. A clause on the source's bytes speaks where the source tells them.
pub record IsLook (look : Look) (file : List ℕ) (source source_after : SourceTold)
    (out out_after err err_after : SinkTold) (status : Status) : Type 0 where
  -- Each status shows its cause: in the source's bytes, or in a count that rose.
  pub ended : IsLookRefusal status ⊎ (status ≡ Done) ⊎ (status ≡ OutWrite)
  pub shown : IfSome source.left (SourceShows look file status)
  pub source_failed : status ≡ SourceRead → Rose source.faults source_after.faults
  -- The source was opened at the file, or not at all.
  pub source_path : OpensAtMost file source.paths source_after.paths
  pub source_opened : status ≡ Done → Opens file source.paths source_after.paths
  -- Standard output took the text, or standard error the line of a refusal.
  pub printed : IsShown (IsTextIn look source.left) out out_after err err_after status
  -- Where no object fails, the bytes decide: of them a look prints something, or they are refused,
  -- unless memory runs out.
  pub complete : (bytes : List ℕ) → source.left ≡ Some bytes → IsShowable look bytes
      → ¬ Rose source.faults source_after.faults → ¬ Rose out.faults out_after.faults
      → (status ≡ Done) ⊎ (status ≡ NoMemory)
  pub refused : (bytes : List ℕ) (cause : Cause) → source.left ≡ Some bytes
      → length bytes ≤ source_limit → IsCauseOf look bytes cause
      → ¬ Rose source.faults source_after.faults
      → SaysOfFile look file cause status ⊎ (status ≡ NoMemory)
  pub too_long : (bytes : List ℕ) → source.left ≡ Some bytes → source_limit < length bytes
      → ¬ Rose source.faults source_after.faults
      → (status ≡ TooLong) ⊎ (status ≡ NoMemory)
