-- Lists by their entries.
use Rattle.std.proofs.Common.{◌≡◌, ℕ, zero, suc, ◌<◌, List, [], ◌∷◌, length, refl, ap, ◌∙◌, arith, slice_get, slice_set, map}
use Rattle.std.specs.Prelude.{Some}
use Rattle.pdb_values.specs.Databases.{DatabaseValue}

-- lists of one length with the same entries
pub same_lists : {X : Type 0} (xs ys : List X) → length xs ≡ length ys → ((k : ℕ) → k < length xs → slice_get xs k ≡ slice_get ys k) → xs ≡ ys
same_lists [] [] many each = refl
same_lists [] (y ∷ ys) many each = absurd (omega arith)
same_lists (x ∷ xs) [] many each = absurd (omega arith)
same_lists (x ∷ xs) (y ∷ ys) many each =
    let first : x ≡ y = (let both : ◌≡◌ (Some x) (Some y) = each 0 (omega arith) in cc) in
    let rest : xs ≡ ys = same_lists xs ys (omega arith) (λ k within. each (suc k) (omega arith)) in
    ap (λ z. z ∷ xs) first ∙ ap (λ zs. y ∷ zs) rest

pub map-set : {X Y : Type 0} (f : X → Y) (xs : List X) (k : ℕ) (x old : X) → slice_get xs k ≡ Some old → f x ≡ f old → map f (slice_set xs k x) ≡ map f xs
map-set f [] k x old here same = refl
map-set f (y ∷ ys) zero x old here same = grind arith
map-set f (y ∷ ys) (suc k) x old here same = ap (λ zs. f y ∷ zs) (map-set f ys k x old here same)

-- databases with the same parts
pub same_parts : (one other : DatabaseValue)
    → one.head ≡ other.head → one.app ≡ other.app → one.sort ≡ other.sort → one.records ≡ other.records → one.resources ≡ other.resources → one ≡ other
same_parts one other head app sort records resources = grind arith
