-- What a copied folder tells, by its parts.
use Rattle.std.specs.Prelude.{ℕ, List, Option, None, Some, cond, map, string_bytes}
use Rattle.hs_folders.specs.FileMaps.{FileMap}
use Rattle.hs_folders.specs.FileTrees.{file_map}
use Rattle.folder_copies.specs.declared.copied_folder.CopiedFolder.{CopiedFolder}

-- its files, where all of them were read
abbrev pub contents_of : CopiedFolder → Option FileMap
contents_of copy = cond copy.failed None (Some (file_map copy.held.files))

-- the paths that it was opened at, where all were
abbrev pub paths_of : CopiedFolder → Option (List (List ℕ))
paths_of copy = cond copy.failed None (Some (map string_bytes copy.held.opened.items))

-- how often it failed, which is never where all were
abbrev pub faults_of : CopiedFolder → ℕ
faults_of copy = cond copy.failed copy.faults 0
