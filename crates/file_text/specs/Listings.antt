-- What is shown of a database.
use Rattle.std.specs.Prelude.{ℕ, List, ◌++◌}
use Rattle.pdb_values.specs.Databases.{DatabaseValue}
use Rattle.file_text.specs.Entries.{entry_lines, full_entry_lines}
use Rattle.file_text.specs.Heads.{blocks_line, head_lines}

-- the lines of its head, of its blocks and of its entries
abbrev pub show_text : DatabaseValue → List ℕ
show_text database =
    head_lines database.head ++ blocks_line database.app database.sort ++ entry_lines database

-- the same lines, those of its entries with their bytes
abbrev pub full_text : DatabaseValue → List ℕ
full_text database =
    head_lines database.head
    ++ blocks_line database.app database.sort ++ full_entry_lines database
