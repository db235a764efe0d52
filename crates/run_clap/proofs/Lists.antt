-- Lists of names.
use Rattle.std.proofs.Common.{◌≡◌, ◌⊎◌, inl, inr, ◌<◌, ℕ, zero, suc, Bool, true, false, List, [], ◌∷◌, length, map, refl, sym, ap, ◌∙◌, arith}
use Rattle.std.proofs.Common.{Option, Some, cond}
use Rattle.std.specs.Prelude.{not, bytes_eq, slice_get, ◌||◌}
use Rattle.std.specs.List.{find, list_all, list_any}
use Rattle.std.proofs.lemmas.Bool.{and_parts, or_parts}
use Rattle.std.proofs.lemmas.Slice.Eq.{bytes_eq-Decides}
use Rattle.run_words.specs.Forms.{NamedOption}
use Rattle.run_clap.specs.Propers.{apart, disjoint, names_of}

abbrev pub Text : Type 0
Text = List ℕ

-- one of a list
abbrev pub IsIn : {X : Type 0} → X → List X → Type 0
IsIn x [] = ⊥
IsIn x (y ∷ ys) = (y ≡ x) ⊎ IsIn x ys

pub not_true : (b : Bool) → not b ≡ true → b ≡ false
not_true b e = grind arith

pub same_text : (x : Text) → bytes_eq x x ≡ true
same_text x = (bytes_eq-Decides x x).1 refl

pub same_is : (x y : Text) → bytes_eq x y ≡ true → x ≡ y
same_is x y e = (bytes_eq-Decides x y).0 e

pub apart_first : (x : Text) (xs : List Text) → apart (x ∷ xs) ≡ true → (list_any (bytes_eq x) xs ≡ false) × (apart xs ≡ true)
apart_first x xs e =
    let parts = and_parts (not (list_any (bytes_eq x) xs)) (apart xs) e in
    (not_true _ parts.0, parts.1)

-- a name differs from each of those that it isn't among
pub differs_in : (x : Text) (ys : List Text) (y : Text) → list_any (bytes_eq x) ys ≡ false → IsIn y ys → bytes_eq x y ≡ false
differs_in x [] y e i = absurd i
differs_in x (z ∷ ys) y e i =
    let parts = or_parts (bytes_eq x z) (list_any (bytes_eq x) ys) e in
    elim i [ inl same ↦ ap (bytes_eq x) (sym same) ∙ parts.0 | inr more ↦ differs_in x ys y parts.1 more ]

pub differs_at : (x : Text) (ys : List Text) (k : ℕ) {y : Text} → list_any (bytes_eq x) ys ≡ false → slice_get ys k ≡ Some y → bytes_eq x y ≡ false
differs_at x [] k e at = cc
differs_at x (z ∷ ys) zero {y} e at =
    let parts = or_parts (bytes_eq x z) (list_any (bytes_eq x) ys) e in
    let same : z ≡ y = cc in
    ap (bytes_eq x) (sym same) ∙ parts.0
differs_at x (z ∷ ys) (suc k) e at = differs_at x ys k (or_parts (bytes_eq x z) (list_any (bytes_eq x) ys) e).1 at

pub disjoint_in : (xs ys : List Text) (x y : Text) → disjoint xs ys ≡ true → IsIn x xs → IsIn y ys → bytes_eq x y ≡ false
disjoint_in [] ys x y e i j = absurd i
disjoint_in (z ∷ xs) ys x y e i j =
    let parts = and_parts (not (list_any (bytes_eq z) ys)) _ e in
    elim i [ inl same ↦ ap (λ n. bytes_eq n y) (sym same) ∙ differs_in z ys y (not_true _ parts.0) j | inr more ↦ disjoint_in xs ys x y parts.1 more j ]

pub in_at : (xs : List Text) (k : ℕ) {x : Text} → slice_get xs k ≡ Some x → IsIn x xs
in_at [] k e = cc
in_at (y ∷ xs) zero e = inl cc
in_at (y ∷ xs) (suc k) e = inr (in_at xs k e)

pub in-map : {X Y : Type 0} (f : X → Y) (xs : List X) (x : X) → IsIn x xs → IsIn (f x) (map f xs)
in-map f [] x i = absurd i
in-map f (y ∷ xs) x i = elim i [ inl same ↦ inl (ap f same) | inr more ↦ inr (in-map f xs x more) ]

pub some_at : (xs : List Text) (k : ℕ) → k < length xs → (x : Text) × (slice_get xs k ≡ Some x)
some_at [] k lt = absurd (omega arith)
some_at (x ∷ xs) zero lt = (x, refl)
some_at (x ∷ xs) (suc k) lt = some_at xs k (omega arith)

-- the test of a list passes at one of it
passing_first : {X : Type 0} (p : X → Bool) (x : X) (xs : List X) (b : Bool) → p x ≡ b → (b || list_any p xs) ≡ true
    → (list_any p xs ≡ true → (y : X) × IsIn y xs × (p y ≡ true)) → (y : X) × IsIn y (x ∷ xs) × (p y ≡ true)
passing_first p x xs true t e rest = (x, inl refl, t)
passing_first p x xs false t e rest = let found = rest e in (found.0, inr found.1, found.2)

pub passing : {X : Type 0} (p : X → Bool) (xs : List X) → list_any p xs ≡ true → (x : X) × IsIn x xs × (p x ≡ true)
passing p [] e = cc
passing p (x ∷ xs) e = passing_first p x xs (p x) refl e (passing p xs)

pub each_passes : {X : Type 0} (p : X → Bool) (xs : List X) (x : X) → list_all p xs ≡ true → IsIn x xs → p x ≡ true
each_passes p [] x e i = absurd i
each_passes p (y ∷ xs) x e i =
    let parts = and_parts (p y) (list_all p xs) e in
    elim i [ inl same ↦ ap p (sym same) ∙ parts.0 | inr more ↦ each_passes p xs x parts.1 more ]

pub all_pass : {X : Type 0} (p : X → Bool) (xs : List X) → ((x : X) → IsIn x xs → p x ≡ true) → list_all p xs ≡ true
all_pass p [] h = refl
all_pass p (x ∷ xs) h = let first = h x (inl refl) in rw first (all_pass p xs (λ y i. h y (inr i)))

-- what is found is one of the list
first_found : {X : Type 0} (b : Bool) (y : X) (ys : List X) (o : Option X) {x : X} → cond b (Some y) o ≡ Some x → (o ≡ Some x → IsIn x ys) → IsIn x (y ∷ ys)
first_found true y ys o e rest = inl cc
first_found false y ys o e rest = inr (rest e)

pub found_in : {X : Type 0} (p : X → Bool) (xs : List X) {x : X} → find p xs ≡ Some x → IsIn x xs
found_in p [] e = cc
found_in p (y ∷ ys) e = first_found (p y) y ys (find p ys) e (found_in p ys)

-- options of one name are one
pub same_option : (options : List NamedOption) (a b : NamedOption) → apart (names_of options) ≡ true → IsIn a options → IsIn b options → bytes_eq a.name b.name ≡ true
    → a ≡ b
same_option [] a b differ i j e = absurd i
same_option (x ∷ options) a b differ (inl p) (inl q) e = sym p ∙ q
same_option (x ∷ options) a b differ (inl p) (inr j) e =
    let no : bytes_eq x.name b.name ≡ false = differs_in x.name (names_of options) b.name (apart_first x.name (names_of options) differ).0 (in-map (λ (o : NamedOption). o.name) options b j) in
    let yes : bytes_eq x.name b.name ≡ true = ap (λ (o : NamedOption). bytes_eq o.name b.name) p ∙ e in
    cc
same_option (x ∷ options) a b differ (inr i) (inl q) e =
    let no : bytes_eq x.name a.name ≡ false = differs_in x.name (names_of options) a.name (apart_first x.name (names_of options) differ).0 (in-map (λ (o : NamedOption). o.name) options a i) in
    let yes : bytes_eq x.name a.name ≡ true = ap (λ (o : NamedOption). bytes_eq o.name a.name) q ∙ ap (bytes_eq b.name) (same_is a.name b.name e) ∙ same_text b.name in
    cc
same_option (x ∷ options) a b differ (inr i) (inr j) e = same_option options a b (apart_first x.name (names_of options) differ).1 i j e
