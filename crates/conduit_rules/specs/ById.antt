-- Lists in rising ids: what a function of the id gives for each id that a record can have.
use Rattle.std.specs.Prelude.{ℕ, zero, suc, ◌^◌, List, [], ◌∷◌, ◌++◌, if◌then◌else◌, ◌==◌, Option, Some, None, flat_map}

-- every record id is below it (24 bits: Palm File Format Specification, record entry)
unfoldable pub id_bound : ℕ
id_bound = 2 ^ 24

-- the ids below a number, in rising order
unfoldable pub ids_below : ℕ → List ℕ
ids_below zero = []
ids_below (suc n) = ids_below n ++ n ∷ []

-- what f gives for each id below n, in rising ids
abbrev pub each_below : {A : Type 0} → (ℕ → List A) → ℕ → List A
each_below f n = flat_map f (ids_below n)

-- what f gives for each id, in rising ids
abbrev pub each_id : {A : Type 0} → (ℕ → List A) → List A
each_id f = each_below f id_bound

-- f with a value put at an id
abbrev pub put : {A : Type 0} → (ℕ → A) → ℕ → A → ℕ → A
put f i a j = if j == i then a else f j

-- a value with its id, where there is one
abbrev pub with_id : {A : Type 0} → ℕ → Option A → List (ℕ × A)
with_id i None = []
with_id i (Some a) = (i, a) ∷ []

-- what stands under an id in a list of values with ids
abbrev pub at : {A : Type 0} → ℕ → List (ℕ × A) → Option A
at i [] = None
at i (e ∷ es) = if e.0 == i then Some e.1 else at i es
