-- A folder's clock: what it told of its contents after each change. So a caller's contract can
-- speak of the contents at each moment inside a call.
use Rattle.std.specs.Prelude.{◌≡◌, ◌⊎◌, ℕ, ◌≤◌, List, ◌++◌, Option, Result, OnErr}
use Rattle.std.specs.Option.{option_map}
use Rattle.std.specs.List.{AllByRecursion}
use Rattle.hs_folders.specs.Causes.{HasCause}
use Rattle.hs_folders.specs.FileMaps.{FileMap}

-- What was told at each moment so far, the oldest first and the present last. None where moments
-- are not told.
abbrev pub Moments : Type 0
Moments = Option (List (Option FileMap))

-- What was told at each moment since `old` has P. Nothing is said where moments are not told.
pub record EachMomentSince (P : Option FileMap → Type 0) (old now : Moments) : Type 0 where
  pub added : List (Option FileMap)
  pub is : now ≡ option_map (λ moments. moments ++ added) old
  pub each : AllByRecursion P added

-- One of the two is told: that before a change, or that after it.
abbrev pub IsBeforeOrAfter : Option FileMap → Option FileMap → Option FileMap → Type 0
IsBeforeOrAfter before after told = (told ≡ before) ⊎ (told ≡ after)

-- A folder was only read: all that it tells stays, and its count of faults did not fall.
pub record OnlyRead {F : Type 0} (contents : F → Option FileMap) (moments : F → Moments)
    (paths : F → Option (List (List ℕ))) (faults : F → ℕ)
    (old new : F) : Type 0 where
  pub same_contents : contents new ≡ contents old
  pub same_moments : moments new ≡ moments old
  pub same_paths : paths new ≡ paths old
  pub later : faults old ≤ faults new

-- A call that may change a folder once, whole or not at all. `Faulted` says that it answered the
-- folder's own failure.
pub record OneChange {F A E : Type 0} (contents : F → Option FileMap) (moments : F → Moments)
    (paths : F → Option (List (List ℕ))) (faults : F → ℕ)
    (old new : F) (answer : Result A E) (Faulted : Type 0) : Type 0 where
  -- After a refusal the files are as before.
  pub contents_stay : OnErr answer (contents new ≡ contents old)
  -- After a refusal no moment was added.
  pub moments_stay : OnErr answer (moments new ≡ moments old)
  -- At each moment of the call the files were those before it or those after it.
  pub each_moment : EachMomentSince (IsBeforeOrAfter (contents old) (contents new)) (moments old)
      (moments new)
  -- It was opened at no other path.
  pub same_paths : paths new ≡ paths old
  -- The count of faults rose where the folder's failure was answered, and is the same where it was
  -- not.
  pub cause : HasCause (faults old) (faults new) Faulted
