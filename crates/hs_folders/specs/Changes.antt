-- The changes that were made to files in memory, as a count or as the trees before each of them.
use Rattle.std.specs.Prelude.{ℕ, List, [], ◌∷◌, ◌++◌, map, length, Option, Some, None}
use Rattle.std.specs.Option.{option_map}
use Rattle.hs_folders.specs.FileMaps.{FileMap}
use Rattle.hs_folders.specs.FileTrees.{FileTree, file_map}
use Rattle.hs_folders.specs.Moments.{Moments}
use Rattle.hs_folders.specs.declared.changes.Changes.{Changes}
use Rattle.hs_folders.specs.declared.changes.Changes.TheVariants.{Counted, Kept}

-- How many changes were made.
abbrev pub count_of : Changes → ℕ
count_of (Counted count) = count
count_of (Kept past) = length past.items

-- What was told before each change, where the trees are kept.
abbrev pub told_before : Changes → Option (List (Option FileMap))
told_before (Counted _) = None
told_before (Kept past) = Some (map (λ tree. Some (file_map tree)) past.items)

-- All moments: those before each change, and then the present one.
abbrev pub moments_of : Changes → FileTree → Moments
moments_of changes files =
    option_map (λ told. told ++ Some (file_map files) ∷ []) (told_before changes)
