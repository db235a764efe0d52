-- The lists of a plan: their ids rise, what is replaced is kept, and what is gone or deleted isn't.
use Rattle.std.proofs.Common.{◌≡◌, ℕ, zero, suc, ◌≤◌, ◌&&◌, ◌||◌, ◌==◌, List, [], ◌∷◌, ◌++◌, refl, ap, ◌∙◌, arith, Option, None, Bool}
use Rattle.std.proofs.Common.{map, if◌then◌else◌, nat_lt, append-nil, rules}
use Rattle.std.specs.List.{list_any}
use Rattle.std.specs.Option.{option_or}
use Rattle.std.proofs.lemmas.Grind.{common_steps}
use Rattle.std.proofs.lemmas.Bool.Decides.{nat_tests}
use Rattle.std.proofs.lemmas.List.{map-append}
use Rattle.std.proofs.lemmas.List.Folds.{list_any-append}
use Rattle.pdb_values.specs.Contents.{ContentValue}
use Rattle.conduit_rules.specs.ById.{id_bound, each_below, with_id, at}
use Rattle.conduit_rules.specs.States.{SideState}
use Rattle.conduit_rules.specs.Plans.{replacement, kept_rows, replaced_rows}
use Rattle.conduit_rules.proofs.ByIdLaws.{each_below-zero, each_below-suc}

-- rising from a number on, and below another
abbrev pub IsRisingFrom : ℕ → List ℕ → ℕ → Type 0
IsRisingFrom low [] end = low ≤ end
IsRisingFrom low (i ∷ is) end = (low ≤ i) × IsRisingFrom (suc i) is end

rising_more : (low : ℕ) (is : List ℕ) (n : ℕ) → IsRisingFrom low is n → IsRisingFrom low is (suc n)
rising_more low [] n rising = omega arith
rising_more low (i ∷ is) n rising = (rising.0, rising_more (suc i) is n rising.1)

rising_push : (low : ℕ) (is : List ℕ) (n : ℕ) → IsRisingFrom low is n → IsRisingFrom low (is ++ n ∷ []) (suc n)
rising_push low [] n rising = (rising, omega arith)
rising_push low (i ∷ is) n rising = (rising.0, rising_push (suc i) is n rising.1)

abbrev pub ids_of : {A : Type 0} → List (ℕ × A) → List ℕ
ids_of es = map (λ e. e.0) es

rising_with : {A : Type 0} (is : List ℕ) (n : ℕ) (o : Option A) → IsRisingFrom 0 is n → IsRisingFrom 0 (is ++ ids_of (with_id n o)) (suc n)
rising_with is n o rising = search (rules, append-nil, rising_more, rising_push)

-- a list of values with their ids is in rising ids
pub rising-with_id : {A : Type 0} (g : ℕ → Option A) (n : ℕ) → IsRisingFrom 0 (ids_of (each_below (λ i. with_id i (g i)) n)) n
rising-with_id g zero = rw (each_below-zero (λ i. with_id i (g i))) (omega arith)
rising-with_id {A} g (suc n) =
    let F : ℕ → List (ℕ × A) = λ i. with_id i (g i) in
    let more : ids_of (each_below F (suc n)) ≡ ids_of (each_below F n) ++ ids_of (with_id n (g n)) = ap ids_of (each_below-suc F n)
    ∙ map-append (λ e. e.0) (each_below F n) (with_id n (g n)) in
    rw more (rising_with (ids_of (each_below F n)) n (g n) (rising-with_id g n))

abbrev pub where_true : (ℕ → Bool) → ℕ → List ℕ
where_true p i = if p i then i ∷ [] else []

rising_if : (is : List ℕ) (n : ℕ) (b : Bool) → IsRisingFrom 0 is n → IsRisingFrom 0 (is ++ (if b then n ∷ [] else [])) (suc n)
rising_if is n b rising = search (rules, append-nil, rising_more, rising_push)

-- a list of ids is rising
pub rising-where : (p : ℕ → Bool) (n : ℕ) → IsRisingFrom 0 (each_below (where_true p) n) n
rising-where p zero = rw (each_below-zero (where_true p)) (omega arith)
rising-where p (suc n) = rw (each_below-suc (where_true p) n) (rising_if (each_below (where_true p) n) n (p n) (rising-where p n))

pub at-append : {A : Type 0} (j : ℕ) (es fs : List (ℕ × A)) → at j (es ++ fs) ≡ option_or (at j es) (at j fs)
at-append j [] fs = refl
at-append j (e ∷ es) fs = grind (arith, common_steps, at-append j es fs)

at_one : {A : Type 0} (j n : ℕ) (below : Option A) (g : ℕ → Option A) → below ≡ (if nat_lt j n then g j else None)
    → option_or below (at j (with_id n (g n))) ≡ (if nat_lt j (suc n) then g j else None)
at_one j n below g is = grind (arith, nat_tests)

-- what stands under an id in a list in rising ids
pub at-each_below : {A : Type 0} (g : ℕ → Option A) (n j : ℕ) → at j (each_below (λ i. with_id i (g i)) n) ≡ (if nat_lt j n then g j else None)
at-each_below g zero j = grind (arith, common_steps, nat_tests, each_below-zero)
at-each_below g (suc n) j = grind (arith, common_steps, nat_tests, each_below-suc, at-append, at_one, at-each_below g n j)

abbrev pub has : ℕ → List ℕ → Bool
has j is = list_any (λ i. i == j) is

has_one : (j n : ℕ) (below : Bool) (p : ℕ → Bool) → below ≡ (nat_lt j n && p j) → (below || has j (where_true p n)) ≡ (nat_lt j (suc n) && p j)
has_one j n below p is = grind (arith, nat_tests)

-- an id that stands in a list of ids
pub has-each_below : (p : ℕ → Bool) (n j : ℕ) → has j (each_below (where_true p) n) ≡ (nat_lt j n && p j)
has-each_below p zero j = ap (has j) (each_below-zero (where_true p)) ∙ grind (arith, nat_tests)
has-each_below p (suc n) j = grind (arith, common_steps, nat_tests, each_below-suc, list_any-append, has_one, has-each_below p n j)

-- the ids of each list rise
pub kept_rise : (keep : ℕ → Option ContentValue) → IsRisingFrom 0 (ids_of (kept_rows keep)) id_bound
kept_rise keep = rising-with_id keep id_bound

pub replaced_rise : (keep : ℕ → Option ContentValue) (handheld : ℕ → SideState) → IsRisingFrom 0 (ids_of (replaced_rows keep handheld)) id_bound
replaced_rise keep handheld = rising-with_id (λ i. replacement (keep i) (handheld i)) id_bound
