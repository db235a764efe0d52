-- What a sink took of the bytes that it was given.
use Rattle.std.specs.Prelude.{◌≡◌, ℕ, List, ◌++◌, take, Option}
use Rattle.std.specs.Option.{option_map}

-- The first so many of these bytes were taken.
pub record AppendsPrefix (old new : Option (List ℕ)) (bytes : List ℕ) : Type 0 where
  pub count : ℕ
  pub is : new ≡ option_map (λ taken. taken ++ take count bytes) old
