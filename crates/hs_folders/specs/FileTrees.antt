-- Files in memory: a tree from names to bytes, and the map that it stands for.
use Rattle.std.specs.Prelude.{ℕ, List, map, Vec, String, string_bytes}
use Rattle.std.specs.BTreeMap.{BTreeMap}
use Rattle.std.specs.FinMap.{from_entries}
use Rattle.std.specs.declared.alloc.Global.{Global}
use Rattle.hs_folders.specs.FileMaps.{FileMap}

-- The files as a folder in memory keeps them.
abbrev pub FileTree : Type 0
FileTree = BTreeMap (String Global) (Vec ℕ Global)

-- Each file's name and bytes as lists.
abbrev pub named : List (String Global × Vec ℕ Global) → List (List ℕ × List ℕ)
named entries = map (λ entry. (string_bytes entry.0, entry.1.items)) entries

-- The map that a tree stands for.
abbrev pub file_map : FileTree → FileMap
file_map files = from_entries (named files.entries)
