-- Why the database of a file is not added.
use Rattle.std.proofs.Common.{◌∙◌, ℕ, List, sym}
use Rattle.backup_files.specs.FoundFiles.{FileShows, IsFoundBefore, IsSameFault}
use Rattle.backup_files.specs.declared.fault.BackupFault.{BackupFault}
use Rattle.backup_files.specs.declared.fault.BackupFault.TheVariants.{NoMemory, SameDatabase}
use Rattle.backup_files.specs.declared.found.Origin.{Origin}

-- the fault of a file whose database was found before
pub same_shows : (origins : List Origin) (name bytes first : List ℕ) (fault : BackupFault) → IsFoundBefore origins bytes first
    → IsSameFault first name fault → FileShows origins name bytes fault
same_shows origins name bytes first (SameDatabase one two) was is =
    (is.1, record { stored = was.stored; text = was.text; origin = was.origin; found = was.found; file = was.file ∙ sym is.0 })
same_shows origins name bytes first NoMemory was is = tt
same_shows origins name bytes first fault was is = absurd is
