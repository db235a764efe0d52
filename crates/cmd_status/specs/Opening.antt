-- The paths that a call opened on an object.
use Rattle.std.specs.Prelude.{◌≡◌, ◌⊎◌, ℕ, List, [], ◌∷◌, ◌++◌, Option, None, Some}
use Rattle.std.specs.Option.{option_map}

-- it was opened at this path
abbrev pub Opens : List ℕ → Option (List (List ℕ)) → Option (List (List ℕ)) → Type 0
Opens path old now = now ≡ option_map (λ paths. paths ++ path ∷ []) old

-- it was opened at this path or not at all
abbrev pub OpensAtMost : List ℕ → Option (List (List ℕ)) → Option (List (List ℕ)) → Type 0
OpensAtMost path old now = (now ≡ old) ⊎ Opens path old now

-- it was opened at the path that is given, and not at all where none is
abbrev pub OpensGiven : Option (List ℕ) → Option (List (List ℕ)) → Option (List (List ℕ)) → Type 0
OpensGiven None old now = now ≡ old
OpensGiven (Some path) old now = Opens path old now

-- it was opened at the path that is given, or not at all
abbrev pub OpensGivenAtMost : Option (List ℕ) → Option (List (List ℕ))
    → Option (List (List ℕ)) → Type 0
OpensGivenAtMost path old now = (now ≡ old) ⊎ OpensGiven path old now
