-- Frame by frame: what is left of the frames, and what a test of all of them says.
use Rattle.std.proofs.Common.{◌≡◌, ℕ, ◌+◌, ◌<◌, List, [], ◌∷◌, length, drop, map, get_or, sym, ap, ◌∙◌}
use Rattle.std.specs.Prelude.{◌↔◌}
use Rattle.std.proofs.lemmas.List.{drop_more}

-- what is left behind so many begins with the next one
pub next_left : {X Y : Type 0} (f : X → Y) (xs : List X) (place : ℕ) (x : X) → place < length xs → x ≡ get_or xs place x
    → map f (drop place xs) ≡ f x ∷ map f (drop (place + 1) xs)
next_left f xs place x inside is =
    ap (map f) (drop_more xs place x inside) ∙ ap (λ y. f y ∷ map f (drop (place + 1) xs)) (sym is)

-- all that is tested is what is left to test of those behind so many
pub record IsLeft {X Y : Type 0} (f : X → Y) (xs : List X) (place : ℕ) (All : Type 0) (Rest : List Y → Type 0) : Type 0 where
  pub all : All ↔ Rest (map f (drop place xs))
