-- What a copy of a folder tells.
use Rattle.std.specs.Prelude.{◌≡◌, ◌⊎◌, ℕ, Bool, List, [], Option, Some, None, IfSome, cond}
use Rattle.std.specs.Cmp.Lexicographic.{slice_cmp}
use Rattle.std.specs.FinMap as finmap
use Rattle.std.specs.List.{list_any}
use Rattle.std.specs.Option.{option_map, option_map_or}
use Rattle.std.specs.Ordering.{eq_by_cmp, nat_cmp}
use Rattle.hs_folders.specs.Causes.{Rose}
use Rattle.hs_folders.specs.FileMaps.{FileMap}

-- A copy holds all files that the folder told, each with its bytes; or it tells none, and the
-- folder failed while it was read: its count of faults was the one, and is the other.
abbrev pub IsCopy : Option FileMap → ℕ → ℕ → Option FileMap → Type 0
IsCopy told before now copied =
    IfSome told (λ held. copied ≡ Some held) ⊎ ((copied ≡ None) × Rose before now)

-- it was opened at no path; or it tells none, and the folder failed
abbrev pub TellsPaths : ℕ → ℕ → Option (List (List ℕ)) → Type 0
TellsPaths before now paths = (paths ≡ Some []) ⊎ ((paths ≡ None) × Rose before now)

-- these files with that one of some others, where it is there
abbrev pub with_file : FileMap → List ℕ → FileMap → FileMap
with_file held name files =
    option_map_or (λ bytes. finmap.insert files name bytes) (finmap.get held name) files

-- where a folder told these files, a copy tells that one of them beside those that it told
abbrev pub CopiesFile : List ℕ → Option FileMap → Option FileMap → Option FileMap → Type 0
CopiesFile name told copied copied_after =
    IfSome told (λ held. copied_after ≡ option_map (with_file held name) copied)

-- a name is one of these
abbrev pub is_named : List (List ℕ) → List ℕ → Bool
is_named names name = list_any (eq_by_cmp (slice_cmp nat_cmp) name) names

-- of some files those of these names, each with its bytes
pub record HoldsNamed (names : List (List ℕ)) (held : FileMap) (copied : Option FileMap)
    : Type 0 where
  pub files : FileMap
  pub is : copied ≡ Some files
  pub each : (name : List ℕ)
      → finmap.get files name ≡ cond (is_named names name) (finmap.get held name) None
