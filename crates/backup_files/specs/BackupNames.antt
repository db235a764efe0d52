-- The names of the files that a folder of backups keeps databases in.
use Rattle.std.specs.Prelude.{ℕ, List, Bool}
use Rattle.std.specs.Str.{str_to_ascii_lowercase}
use Rattle.handheld_files.specs.Handhelds.{is_database_file}

-- a name that ends in `.pdb` or `.prc`, in letters of either case
abbrev pub is_backup : List ℕ → Bool
is_backup name = is_database_file (str_to_ascii_lowercase name)
