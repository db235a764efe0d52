-- Lists in rising ids.
use Rattle.std.proofs.Common.{◌≡◌, ℕ, zero, suc, ◌+◌, ◌≤◌, ◌<◌, ◌^◌, List, [], ◌∷◌, ◌++◌, refl, ap, ◌∙◌, ◌-◌, sym, arith, Option, Some, None, option_to_list}
use Rattle.std.proofs.Common.{append-nil, sum_by, ◌⊎◌, ⊎_elim}
use Rattle.std.proofs.lemmas.List.Sums.{sum_by-append}
use Rattle.std.proofs.lemmas.Grind.{common_steps}
use Rattle.std.proofs.lemmas.List.Concat.{flat_map-append}
use Rattle.conduit_rules.specs.ById.{id_bound, ids_below, each_below, put}
use Rattle.std.proofs.lemmas.Bool.Decides.{nat_tests}

-- the only place that opens the bound
pub id_bound-is : id_bound ≡ 2 ^ 24
unfolding id_bound
id_bound-is = refl

pub each_below-zero : {A : Type 0} (f : ℕ → List A) → each_below f 0 ≡ []
unfolding ids_below
each_below-zero f = refl

pub each_below-suc : {A : Type 0} (f : ℕ → List A) (n : ℕ) → each_below f (suc n) ≡ each_below f n ++ f n
unfolding ids_below
each_below-suc f n = cc (flat_map-append f (ids_below n) (n ∷ []), append-nil (f n))

-- equal at each id, equal as lists
pub each_below-same : {A : Type 0} (f g : ℕ → List A) (n : ℕ) → ((i : ℕ) → i < n → f i ≡ g i) → each_below f n ≡ each_below g n
unfolding ids_below
each_below-same f g zero same = refl
each_below-same {A} f g (suc n) same = each_below-suc f n
    ∙ ap {A = List A × List A} (λ p. p.0 ++ p.1) (λ k. (each_below-same f g n (λ i l. same i (omega arith)) k, same n (omega arith) k))
    ∙ sym (each_below-suc g n)

-- an id that gives nothing is passed
pub each_below-pass : {A : Type 0} (f : ℕ → List A) (n : ℕ) → f n ≡ [] → each_below f (suc n) ≡ each_below f n
each_below-pass f n none = each_below-suc f n ∙ ap (λ ys. each_below f n ++ ys) none ∙ append-nil _

gap : {A : Type 0} (f : ℕ → List A) (m n k : ℕ) → n ≡ k + m → ((i : ℕ) → m ≤ i → i < n → f i ≡ []) → each_below f n ≡ each_below f m
gap f m n zero is none = let e : n ≡ m = omega arith in cc
gap f m zero (suc k) is none = absurd (omega arith)
gap f m (suc n) (suc k) is none = each_below-pass f n (none n (omega arith) (omega arith)) ∙ gap f m n k (omega arith) (λ i l r. none i l (omega arith))

-- ids that give nothing are passed
pub each_below-gap : {A : Type 0} (f : ℕ → List A) (m n : ℕ) → m ≤ n → ((i : ℕ) → m ≤ i → i < n → f i ≡ []) → each_below f n ≡ each_below f m
each_below-gap f m n rising none = gap f m n (n - m) (omega arith) none

-- one more id, after a gap
pub each_below-next : {A : Type 0} (f : ℕ → List A) (m i : ℕ) → m ≤ i → ((j : ℕ) → m ≤ j → j < i → f j ≡ []) → each_below f (i + 1) ≡ each_below f m ++ f i
each_below-next f m i rising none =
    let one : i + 1 ≡ suc i = omega arith in
    cc (each_below-suc f i, each_below-gap f m i rising none)

pub each_below-none : {A : Type 0} (f : ℕ → List A) (n : ℕ) → ((i : ℕ) → f i ≡ []) → each_below f n ≡ []
each_below-none f n none = each_below-gap f 0 n (omega arith) (λ i l r. none i) ∙ each_below-zero f

last_or_below : (i n : ℕ) → i < suc n → (i ≡ n) ⊎ (i < n)
last_or_below i n l = grind arith

at_last : {A : Type 0} (w : A → ℕ) (F G : ℕ → List A) (n more : ℕ) → each_below F n ≡ each_below G n → sum_by w (F n) ≡ sum_by w (G n) + more
    → sum_by w (each_below F (suc n)) ≡ sum_by w (each_below G (suc n)) + more
at_last w F G n more same last = grind (arith, common_steps, nat_tests, each_below-suc, sum_by-append)

below_last : {A : Type 0} (w : A → ℕ) (F G : ℕ → List A) (n more : ℕ) → sum_by w (each_below F n) ≡ sum_by w (each_below G n) + more → F n ≡ G n
    → sum_by w (each_below F (suc n)) ≡ sum_by w (each_below G (suc n)) + more
below_last w F G n more below last = grind (arith, common_steps, nat_tests, each_below-suc, sum_by-append)

-- with a value put at an id that had none, its weight is added
pub sum-each_below_put : {A : Type 0} (w : A → ℕ) (f : ℕ → Option A) (i : ℕ) (a : A) (n : ℕ) → f i ≡ None → i < n
    → sum_by w (each_below (λ j. option_to_list (put f i (Some a) j)) n) ≡ sum_by w (each_below (λ j. option_to_list (f j)) n) + w a
sum-each_below_put w f i a zero none within = absurd (omega arith)
sum-each_below_put {A} w f i a (suc n) none within =
    let F : ℕ → List A = λ j. option_to_list (put f i (Some a) j) in
    let G : ℕ → List A = λ j. option_to_list (f j) in
    ⊎_elim
    (λ (here : i ≡ n). at_last w F G n (w a) (each_below-same F G n (λ j l. ap option_to_list (grind arith))) (grind (arith, common_steps)))
    (λ (below : i < n). below_last w F G n (w a) (sum-each_below_put w f i a n none below) (ap option_to_list (grind arith)))
    (last_or_below i n within)

-- what is the same at the place that changes is the same everywhere
pub at_put : {A B : Type 0} (F : ℕ → A → B) (h : ℕ → A) (i : ℕ) (a : A) → F i a ≡ F i (h i) → (j : ℕ) → F j (put h i a j) ≡ F j (h j)
at_put F h i a e j = grind arith
