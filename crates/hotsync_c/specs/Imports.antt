-- The file of the database of memos that a text makes.
use Rattle.std.specs.Prelude.{◌≡◌, ⊤, ℕ, List, Ok, Err, min}
use Rattle.pdb_values.specs.Databases.{DatabaseValue}
use Rattle.pdb_files.specs.Files.{canonical}
use Rattle.memo_texts.specs.Databases.{import_in}
use Rattle.memo_texts.specs.declared.fault.ImportFault.{ImportFault}
use Rattle.memo_texts.specs.declared.fault.ImportFault.TheVariants.{BadText, TooManyCategories, TooManyRecords, NoMemory}
use Rattle.hotsync_c.specs.declared.refusal.Refusal.{Refusal}
use Rattle.hotsync_c.specs.declared.refusal.Refusal.TheVariants.{Memory, BadLine, Labels, Memos}

-- the refusal of a text; a line behind line 4,294,967,295 is told as that one
abbrev pub import_refusal : ImportFault → Refusal
import_refusal (BadText line _) = BadLine (min line 4294967295)
import_refusal TooManyCategories = Labels
import_refusal TooManyRecords = Memos
import_refusal NoMemory = Memory

-- the canonical file of the database of the text
pub record IsImportOf (text file : List ℕ) : Type 0 where
  pub database : DatabaseValue
  pub made : import_in text ≡ Ok database
  pub is : file ≡ canonical database

-- the text gives no database
pub record IsNoImport (text : List ℕ) (refusal : Refusal) : Type 0 where
  pub fault : ImportFault
  pub why : import_in text ≡ Err fault
  pub is : refusal ≡ import_refusal fault

-- why there is no file: the text gives no database, or memory ran out
abbrev pub RefusesImport : List ℕ → Refusal → Type 0
RefusesImport text Memory = ⊤
RefusesImport text refusal = IsNoImport text refusal
