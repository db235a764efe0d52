-- A list in rising ids, with the places of its entries.
use Rattle.std.specs.Prelude.{◌≡◌, ℕ, suc, ◌≤◌, List, [], ◌∷◌, ◌==◌, filter, length, Option, Some, None, if◌then◌else◌}

-- the entries of a list with their places, from a number on
abbrev pub placed_from : {A : Type 0} → ℕ → List A → List (ℕ × A)
placed_from p [] = []
placed_from p (x ∷ xs) = (p, x) ∷ placed_from (suc p) xs

abbrev pub placed : {A : Type 0} → List A → List (ℕ × A)
placed xs = placed_from 0 xs

-- those of an id
abbrev pub under : {A : Type 0} → (A → ℕ) → ℕ → List (ℕ × A) → List (ℕ × A)
under id i es = filter (λ e. id e.1 == i) es

-- no id is below one that comes before it, nor below low
abbrev pub IsRising : {A : Type 0} → (A → ℕ) → ℕ → List (ℕ × A) → Type 0
IsRising id low [] = Unit {0}
IsRising id low (e ∷ es) = (low ≤ id e.1) × IsRising id (id e.1) es

-- a list in rising ids; the entries of one id stand in the order of the list
pub record IsRunOf {A : Type 0} (id : A → ℕ) (list : List A) (run : List (ℕ × A)) : Type 0 where
  pub len : length run ≡ length list
  pub rising : IsRising id 0 run
  pub same : (i : ℕ) → under id i run ≡ under id i (placed list)

-- a list, and what of it is ahead
pub record RunValue (A : Type 0) : Type 0 where
  pub list : List A
  pub ahead : List (ℕ × A)

-- a list of which nothing was passed
abbrev pub IsFresh : {A : Type 0} → (A → ℕ) → RunValue A → Type 0
IsFresh id run = IsRunOf id run.list run.ahead

-- the entry in front, where it bears this id
abbrev pub front_under : {A : Type 0} → (A → ℕ) → ℕ → List (ℕ × A) → Option (ℕ × A)
front_under id i [] = None
front_under id i (e ∷ es) = if id e.1 == i then Some e else None

-- the entry in front bears no lesser id
abbrev pub IsFrom : {A : Type 0} → (A → ℕ) → ℕ → List (ℕ × A) → Type 0
IsFrom id i [] = Unit {0}
IsFrom id i (e ∷ es) = i ≤ id e.1

-- an entry, where it bears this id
abbrev pub where_id : {A : Type 0} → (A → ℕ) → ℕ → Option (ℕ × A) → Option (ℕ × A)
where_id id i None = None
where_id id i (Some e) = if id e.1 == i then Some e else None
