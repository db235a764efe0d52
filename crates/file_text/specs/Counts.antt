-- The line that counts the entries of a database.
use Rattle.std.specs.Prelude.{ℕ, Bool, List, ◌++◌, codes, if◌then◌else◌}
use Rattle.pdb_values.specs.Databases.{DatabaseValue}
use Rattle.pdb_files.specs.Counts.{count_of}
use Rattle.pdb_files.specs.declared.count.FileCount.{FileCount}
use Rattle.file_text.specs.Fields.{line_feed, number_text}

-- what the entries are, and the end of the line
abbrev pub entries_word : Bool → List ℕ
entries_word of_resources =
    (if of_resources then codes " resources" else codes " records") ++ line_feed

-- `ok N records` or `ok N resources`, of so many entries
abbrev pub counted_text : FileCount → List ℕ
counted_text count =
    number_text (codes "ok ") count.entries ++ entries_word count.of_resources

-- the same line of a database
abbrev pub check_text : DatabaseValue → List ℕ
check_text database = counted_text (count_of database)
