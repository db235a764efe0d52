-- Entries of a database, which are its records or its resources in their order.
use Rattle.std.specs.Prelude.{ℕ, Bool, List, [], ◌∷◌, if◌then◌else◌, Option, None, Some, slice_get, slice_set}
use Rattle.std.specs.Option.{option_map}

-- the first entry that passes the test is changed; where none does, a new one stands behind the
-- others
unfoldable pub put_entry : {X : Type 0} → (X → Bool) → (X → X) → X → List X → List X
put_entry test change new [] = new ∷ []
put_entry test change new (x ∷ xs) =
    if test x then change x ∷ xs else x ∷ put_entry test change new xs

-- the first entry that passes the test is left out
unfoldable pub without_entry : {X : Type 0} → (X → Bool) → List X → List X
without_entry test [] = []
without_entry test (x ∷ xs) = if test x then xs else x ∷ without_entry test xs

-- another entry at a place, where there is one
abbrev pub set_some : {X : Type 0} → ℕ → List X → Option X → List X
set_some place xs None = xs
set_some place xs (Some x) = slice_set xs place x

-- the entry at a place is changed
abbrev pub change_at : {X : Type 0} → (X → X) → ℕ → List X → List X
change_at change place xs = set_some place xs (option_map change (slice_get xs place))
