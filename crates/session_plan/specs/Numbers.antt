-- The number that a user gets, by the date of the session, its name and the number that the slot
-- had.
use Rattle.std.specs.Prelude.{ℕ, zero, suc, ◌+◌, ◌*◌, ◌%◌, ◌==◌, Bool, List, [], ◌∷◌, if◌then◌else◌}
use Rattle.std.specs.List.{list_any}

-- a number goes into a seed, which stays below 2^31
abbrev pub mix : ℕ → ℕ → ℕ
mix seed number = (seed * 16777619 + number) % 2147483648

-- so do several, in order
abbrev pub mixed : ℕ → List ℕ → ℕ
mixed seed [] = seed
mixed seed (number ∷ numbers) = mixed (mix seed number) numbers

-- the number to begin with, from 1 on: date, old number and name, mixed in this order
abbrev pub first_number : ℕ → List ℕ → ℕ → ℕ
first_number date name old = 1 + mixed 0 (date ∷ old ∷ name)

-- somebody has this number
abbrev pub is_taken : List ℕ → ℕ → Bool
is_taken taken number = list_any (λ other. other == number) taken

-- the first number from this one on that nobody has, among so many and the one behind them
unfoldable pub free_from : ℕ → ℕ → List ℕ → ℕ
free_from zero number taken = number
free_from (suc tries) number taken =
    if is_taken taken number then free_from tries (number + 1) taken else number

-- the first number that nobody has; at most 17 are taken, those of the slots and of the handheld
abbrev pub new_number : ℕ → List ℕ → ℕ → List ℕ → ℕ
new_number date name old taken = free_from 17 (first_number date name old) taken
