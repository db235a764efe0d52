-- Kinds of bad files: their words, and which one a fault makes.
use Rattle.std.specs.Prelude.{ℕ, List, Option, Some, None, codes}
use Rattle.pdb_files.specs.declared.fault.FileFault.{FileFault}
use Rattle.pdb_files.specs.declared.fault.FileFault.TheVariants as faults
use Rattle.pdb_files.specs.declared.bad_kind.BadKind.{BadKind}
use Rattle.pdb_files.specs.declared.bad_kind.BadKind.TheVariants.{Short, Name, Chained, Offset, Large, FileName, Twice, Info, Journal}
use Rattle.pdb_files.specs.Headers.{next_list_place}

-- the word for each kind, in ASCII
abbrev pub word_of : BadKind → List ℕ
word_of Short = codes "short"
word_of Name = codes "name"
word_of Chained = codes "chained"
word_of Offset = codes "offset"
word_of Large = codes "large"
word_of FileName = codes "filename"
word_of Twice = codes "twice"
word_of Info = codes "info"
word_of Journal = codes "journal"

-- the kind of bad file that a fault makes, and the place that messages name
abbrev pub bad_file : FileFault → Option (BadKind × ℕ)
bad_file (faults.Short length) = Some (Short, length)
bad_file (faults.BadName place) = Some (Name, place)
bad_file faults.Chained = Some (Chained, next_list_place)
bad_file (faults.BadOffset block) = Some (Offset, block)
bad_file (faults.TooLarge block) = Some (Large, block)
bad_file faults.NoMemory = None
