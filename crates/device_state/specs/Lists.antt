-- A folder's files as they stand in memory, one behind the other.
use Rattle.std.specs.Prelude.{◌≡◌, ◌≢◌, ℕ, List, ◌++◌, map, flat_map, All, AllPairs, true}
use Rattle.std.specs.Str.{is_utf8}
use Rattle.std.specs.FinMap as finmap
use Rattle.hs_folders.specs.FileMaps.{FileMap}
use Rattle.device_state.specs.Strings.{string_text}

-- A file's name and its bytes.
pub record NamedFile : Type 0 where
  pub name : List ℕ
  pub bytes : List ℕ

-- Its name, and then its bytes, each behind its length.
unfoldable pub file_text : NamedFile → List ℕ
file_text file = string_text file.name ++ string_text file.bytes

-- Each file behind the one before.
abbrev pub list_text : List NamedFile → List ℕ
list_text files = flat_map file_text files

-- Each name is text in UTF-8, and no name stands twice.
pub record IsFileList (files : List NamedFile) : Type 0 where
  pub utf8 : All (λ file. is_utf8 file.name ≡ true) files
  pub once : AllPairs (λ file other. file.name ≢ other.name) files

-- What a folder of these files holds.
abbrev pub held_of : List NamedFile → FileMap
held_of files = finmap.from_entries (map (λ file. (file.name, file.bytes)) files)

-- The files of a folder in byte order of their names.
abbrev pub files_of : FileMap → List NamedFile
files_of held = map (λ entry. record { name = entry.0; bytes = entry.1 }) (finmap.entries held)
