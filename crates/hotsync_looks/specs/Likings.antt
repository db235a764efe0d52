-- What holds of an import in the categories of another file: both files and standard output before
-- it, and all three after it.
use Rattle.std.specs.Prelude.{◌≡◌, ◌⊎◌, ⊤, ◌<◌, ℕ, List, length, Option, None, Some, IfSome, Ok, string_bytes}
use Rattle.std.specs.declared.alloc.Global.{Global}
use Rattle.hs_folders.specs.Causes.{Rose}
use Rattle.pdb_values.specs.Databases.{DatabaseValue}
use Rattle.pdb_files.specs.Files.{IsFileText, canonical}
use Rattle.memo_texts.specs.Databases.{import_in}
use Rattle.category_tables.specs.Likes.{HasTooMany, IsLike, RefusesLike}
use Rattle.category_tables.specs.declared.like_fault.LikeFault.{LikeFault}
use Rattle.category_tables.specs.declared.like_fault.LikeFault.TheVariants as likes
use Rattle.run_words.specs.Likes.{Like}
use Rattle.handheld_files.specs.BadFiles.{BreaksRule}
use Rattle.cmd_status.specs.Opening.{Opens, OpensAtMost}
use Rattle.cmd_status.specs.Printed.{IsPrinted, IsShown}
use Rattle.cmd_status.specs.Sources.{source_limit}
use Rattle.cmd_status.specs.Told.{SinkTold, SourceTold}
use Rattle.cmd_status.specs.declared.status.FileSide.TheVariants.{Source}
use Rattle.cmd_status.specs.declared.status.Status.{Status}
use Rattle.cmd_status.specs.declared.status.Status.TheVariants.{Done, BadCategories, BadFile, NoMemory, OutWrite, Overfull, SourceRead, TooLong}
use Rattle.cmd_status.specs.declared.status.Surplus.TheVariants as surplus
use Rattle.hotsync_looks.specs.LookTexts.{RefusesImport}
use Rattle.hotsync_looks.specs.Misuses.{IsMisuse}

-- ---- the other file

-- the other file's bytes are those of this database, and this is its app block
pub record HasBlock (bytes : List ℕ) (other : DatabaseValue) (block : List ℕ) : Type 0 where
  pub file : IsFileText other bytes
  pub app : other.app ≡ Some block

-- the file of a database in the categories of these bytes
pub record IsLikedFile (database : DatabaseValue) (bytes file : List ℕ) : Type 0 where
  pub other : DatabaseValue
  pub block : List ℕ
  pub has : HasBlock bytes other block
  pub like : DatabaseValue
  pub is : IsLike database block like
  pub text : file ≡ canonical like

-- a block is there, and begins with a table, as that of the database does
abbrev pub HaveTables : DatabaseValue → DatabaseValue → Type 0
HaveTables database other =
    (block : List ℕ) × (other.app ≡ Some block) × ¬ RefusesLike database block likes.BadTable

-- the bytes are the file of a database of this name, which has no categories
pub record HasNoTable (database : DatabaseValue) (name bytes : List ℕ) : Type 0 where
  pub other : DatabaseValue
  pub file : IsFileText other bytes
  pub named : other.head.name ≡ name
  pub none : ¬ HaveTables database other

-- a label of the database finds no number there
pub record FindsNoNumber (database : DatabaseValue) (bytes : List ℕ) : Type 0 where
  pub other : DatabaseValue
  pub block : List ℕ
  pub has : HasBlock bytes other block
  pub many : HasTooMany database block

-- what a status says of the other file, which bears this path
abbrev pub SaysUnlike : List ℕ → DatabaseValue → List ℕ → Status → Type 0
SaysUnlike path database bytes (BadFile side name kind place) =
    (side ≡ Source) × (string_bytes {Z = Global} name ≡ path) × BreaksRule bytes kind place
SaysUnlike path database bytes (BadCategories name) = HasNoTable database name bytes
SaysUnlike path database bytes (Overfull what) =
    (what ≡ surplus.Categories) × FindsNoNumber database bytes
SaysUnlike path database bytes NoMemory = ⊤
SaysUnlike path database bytes _ = ⊥

-- the status of a database of this name that gives no categories
abbrev pub like_status : List ℕ → LikeFault → Status
like_status name likes.BadTable = BadCategories name
like_status name likes.TooMany = Overfull surplus.Categories
like_status name likes.NoMemory = NoMemory

-- ---- both files

-- bytes that a source holds, where it tells what it holds
abbrev pub IsToldOf : Option (List ℕ) → List ℕ → Type 0
IsToldOf left bytes = IfSome left (λ told. bytes ≡ told)

-- the file of the database that the text's memos make, in the categories of the other file
pub record IsLikedIn (source like : Option (List ℕ)) (file : List ℕ) : Type 0 where
  pub text : List ℕ
  pub text_told : IsToldOf source text
  pub database : DatabaseValue
  pub read : import_in text ≡ Ok database
  pub bytes : List ℕ
  pub bytes_told : IsToldOf like bytes
  pub is : IsLikedFile database bytes file

-- the text is refused as such
pub record RefusesText (source : Option (List ℕ)) (status : Status) : Type 0 where
  pub text : List ℕ
  pub told : IsToldOf source text
  pub is : RefusesImport text status

-- the text makes a database, and the other file is refused
pub record RefusesOther (path : List ℕ) (source like : Option (List ℕ)) (status : Status)
    : Type 0 where
  pub text : List ℕ
  pub text_told : IsToldOf source text
  pub database : DatabaseValue
  pub read : import_in text ≡ Ok database
  pub bytes : List ℕ
  pub bytes_told : IsToldOf like bytes
  pub is : SaysUnlike path database bytes status

-- a source that tells what it holds has too much of it
abbrev pub IsTooLong : Option (List ℕ) → Type 0
IsTooLong left = IfSome left (λ told. source_limit < length told)

-- why nothing is made of both files
abbrev pub RefusesLiking : List ℕ → Option (List ℕ) → Option (List ℕ) → Status → Type 0
RefusesLiking path source like status =
    (status ≡ NoMemory) ⊎ (status ≡ SourceRead)
    ⊎ ((status ≡ TooLong) × (IsTooLong source ⊎ IsTooLong like))
    ⊎ RefusesText source status ⊎ RefusesOther path source like status

-- ---- the call

-- what is known of it
pub record IsLiking (words : Like) (source source_after like like_after : SourceTold)
    (out out_after err err_after : SinkTold) (status : Status) : Type 0 where
  -- Each refusal shows its cause: in the bytes, or in a count that rose.
  pub ended : RefusesLiking words.like source.left like.left status ⊎ (status ≡ Done)
      ⊎ (status ≡ OutWrite)
  pub failed : status ≡ SourceRead
      → Rose source.faults source_after.faults ⊎ Rose like.faults like_after.faults
  -- Each of both is opened at its path, or not at all.
  pub source_path : OpensAtMost words.file source.paths source_after.paths
  pub like_path : OpensAtMost words.like like.paths like_after.paths
  pub source_opened : status ≡ Done → Opens words.file source.paths source_after.paths
  pub like_opened : status ≡ Done → Opens words.like like.paths like_after.paths
  -- Standard output took the file, or standard error the line of a refusal.
  pub printed : IsShown (IsLikedIn source.left like.left) out out_after err err_after status

-- what is known of a call whose words may be out of the form
abbrev pub IsLikingCall : Option Like → SourceTold → SourceTold → SourceTold → SourceTold
    → SinkTold → SinkTold → SinkTold → SinkTold → Status → Type 0
IsLikingCall None source source_after like like_after out out_after err err_after status =
    (IsMisuse status ⊎ (status ≡ NoMemory)) × IsPrinted (λ text. ⊥) err err_after status
    × (out_after ≡ out)
IsLikingCall (Some words) source source_after like like_after out out_after err err_after status =
    IsLiking words source source_after like like_after out out_after err err_after status
