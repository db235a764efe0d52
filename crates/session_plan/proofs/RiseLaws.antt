-- The names of a session rise: each comes at its place.
use Rattle.std.proofs.lemmas.Grind.{common_steps}
use Rattle.std.proofs.lemmas.Bool.Decides.{nat_tests}
use Rattle.std.proofs.lemmas.Bool.{and_parts, or_parts}
use Rattle.std.proofs.Common.{◌≡◌, refl, ℕ, Bool, true, false, cond, List, [], ◌∷◌, arith, if◌then◌else◌, insert}
use Rattle.std.specs.List.{list_all, list_any, position_or_len}
use Rattle.std.specs.Str.{bytes_eq}
use Rattle.pdb_values.specs.NamedDatabases.{comes_before}
use Rattle.pdb_values.proofs.NamedLaws.{comes_before-other, comes_before-trans}
use Rattle.session_plan.specs.Fits.{Rise}
use Rattle.session_plan.specs.Tasks.{with_name, with_names}

abbrev are_behind : List ℕ → List (List ℕ) → Bool
are_behind name names = list_all (λ later. comes_before name later) names

behind_all : (a b : List ℕ) (names : List (List ℕ)) → comes_before a b ≡ true → are_behind b names ≡ true → are_behind a names ≡ true
behind_all a b [] first all = refl
behind_all a b (n ∷ names) first all = grind (arith, nat_tests, common_steps, behind_all a b names, and_parts, comes_before-trans)

-- a name at its place
abbrev pub at_place : List ℕ → List (List ℕ) → List (List ℕ)
at_place name names = insert names (position_or_len (λ other. comes_before name other) names) name

-- a name goes in front of the first that it comes before, or on behind that
pub at_place-cons : (name n : List ℕ) (names : List (List ℕ))
    → at_place name (n ∷ names) ≡ cond (comes_before name n) (name ∷ n ∷ names) (n ∷ at_place name names)
at_place-cons name n names = grind arith

all-at_place : (test : List ℕ → Bool) (name : List ℕ) (names : List (List ℕ)) → test name ≡ true → list_all test names ≡ true
    → list_all test (at_place name names) ≡ true
all-at_place test name [] here all = rw here refl
all-at_place test name (n ∷ names) here all = grind (arith, nat_tests, common_steps, all-at_place test name names, and_parts, at_place-cons)

rise-at_place : (name : List ℕ) (names : List (List ℕ))
    → list_any (λ other. bytes_eq other name) names ≡ false → Rise names → Rise (at_place name names)
rise-at_place name [] none rise = (refl, tt)
rise-at_place name (n ∷ names) none rise =
    let both = or_parts (bytes_eq n name) (list_any (λ other. bytes_eq other name) names) none in
    rw at_place-cons (by (comes_before name n) refl both.0 (rise-at_place name names both.1 rise.1))
  where
    by : (first : Bool) → comes_before name n ≡ first → bytes_eq n name ≡ false → Rise (at_place name names)
        → Rise (cond first (name ∷ n ∷ names) (n ∷ at_place name names))
    by true is differ later = (rw is (behind_all name n names is rise.0), rise)
    by false is differ later =
        (all-at_place (λ later. comes_before n later) name names (comes_before-other n name is differ) rise.0, later)

rise-with_name : (name : List ℕ) (names : List (List ℕ)) → Rise names → Rise (with_name name names)
rise-with_name name names rise = by (list_any (λ other. bytes_eq other name) names) refl
  where
    by : (there : Bool) → list_any (λ other. bytes_eq other name) names ≡ there
        → Rise (if there then names else insert names (position_or_len (λ other. comes_before name other) names) name)
    by true is = rise
    by false is = rise-at_place name names is rise

pub rise-with_names : (more names : List (List ℕ)) → Rise names → Rise (with_names more names)
rise-with_names [] names rise = rise
rise-with_names (name ∷ more) names rise = rise-with_names more (with_name name names) (rise-with_name name names rise)
