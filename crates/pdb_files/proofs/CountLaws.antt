-- How many entries a file has: its header says it.
use Rattle.std.proofs.Common.{◌≡◌, ℕ, List, ap, ◌∙◌, None, Err, refl}
use Rattle.pdb_values.specs.Databases.{DatabaseValue}
use Rattle.pdb_values.specs.Heads.{holds_resources}
use Rattle.pdb_files.specs.declared.count.FileCount.{FileCount}
use Rattle.pdb_files.specs.declared.header.Header.{Header}
use Rattle.pdb_files.specs.declared.fault.FileFault.{FileFault}
use Rattle.pdb_files.specs.declared.fault.FileFault.TheVariants.{NoMemory}
use Rattle.pdb_files.specs.Counts.{IsCounted, count_of}
use Rattle.pdb_files.specs.Faults.{Refuses, file_fault}
use Rattle.pdb_files.specs.Files.{IsFileText}
use Rattle.pdb_files.specs.Reading.{database_in, head_in, header_in}
use Rattle.pdb_files.proofs.FileLaws.{file-read, file-written}
use Rattle.pdb_files.proofs.Numbers.{IsBytes}

-- what a header says of the entries of the file that it begins
abbrev pub header_count : Header → FileCount
header_count header = record { of_resources = holds_resources header.head.attributes; entries = header.count }

-- it is what the database of the file has
pub count_is : {header : Header} (database : DatabaseValue) (bytes : List ℕ) → header ≡ header_in bytes → IsFileText database bytes
    → header_count header ≡ count_of database
unfolding header_in head_in
count_is {header} database bytes is file =
    let counts = file-written database bytes file in
    ap header_count is ∙ (λ i. record { of_resources = counts.sort i; entries = counts.count i })

pub is_counted : {header : Header} (bytes : List ℕ) → IsBytes bytes → header ≡ header_in bytes → file_fault bytes ≡ None
    → IsCounted (header_count header) bytes
is_counted bytes fits is none =
    let file = file-read bytes fits none in
    record { database = database_in bytes; file = file; is = count_is (database_in bytes) bytes is file }

-- a file that breaks no rule is refused for want of memory alone
pub no_refusal : (A : Type 0) (bytes : List ℕ) (fault : FileFault) (database : DatabaseValue)
    → Refuses {A = A} (Err fault) (file_fault bytes) → IsFileText database bytes → fault ≡ NoMemory
no_refusal A bytes NoMemory database refuses file = refl
no_refusal A bytes other database refuses file =
    let none = (file-written database bytes file).none in absurd cc
