-- What bytes say of a folder.
use Rattle.std.specs.Prelude.{◌≡◌, ℕ, List, Option, Some}
use Rattle.hs_folders.specs.FileMaps.{FileMap}
use Rattle.device_state.specs.Lists.{IsFileList, NamedFile, held_of, list_text}

-- The bytes are those of a list of files, and a folder tells that it holds these.
pub record IsFolderText (contents : Option FileMap) (bytes : List ℕ) : Type 0 where
  pub files : List NamedFile
  pub form : IsFileList files
  pub text : bytes ≡ list_text files
  pub held : contents ≡ Some (held_of files)
