-- Pairing: what is left without a partner, and how often.
use Rattle.std.proofs.Common.{◌≡◌, ◌≢◌, ℕ, suc, ◌<◌, ◌≤◌, ◌==◌, List, [], ◌∷◌, refl, arith, true, false, Bool, not, Some, None, length}
use Rattle.std.specs.List.{position, position_or_len, remove}
use Rattle.std.proofs.lemmas.Grind.{common_steps}
use Rattle.std.proofs.lemmas.Bool.Decides.{nat_tests}
use Rattle.pdb_values.specs.Contents.{ContentValue}
use Rattle.conduit_rules.specs.Contents.{same_content, count_of}
use Rattle.conduit_rules.specs.News.{less_one, unpaired, without_first}
use Rattle.conduit_rules.proofs.ContentLaws.{same_content-same, same_content-is}

-- the place of the first content that is equal to c, or the length
abbrev place : ContentValue → List ContentValue → ℕ
place c xs = position_or_len (λ x. same_content x c) xs

removed_by : (b : Bool) (c x : ContentValue) (xs : List ContentValue) → same_content x c ≡ b → place c (x ∷ xs) < length (x ∷ xs)
    → (place c xs < length xs → remove xs (place c xs) ≡ without_first c xs)
    → remove (x ∷ xs) (place c (x ∷ xs)) ≡ without_first c (x ∷ xs)
removed_by true c x xs e within rest =
    let here : place c (x ∷ xs) ≡ 0 = grind arith in
    let left : without_first c (x ∷ xs) ≡ xs = grind arith in
    cc
removed_by false c x xs e within rest =
    let later : place c (x ∷ xs) ≡ suc (place c xs) = grind arith in
    let left : without_first c (x ∷ xs) ≡ x ∷ without_first c xs = grind arith in
    cc (rest (omega arith))

removed : (c : ContentValue) (xs : List ContentValue) → place c xs < length xs → remove xs (place c xs) ≡ without_first c xs
removed c [] within = absurd (omega arith)
removed c (x ∷ xs) within = removed_by (same_content x c) c x xs refl within (removed c xs)

counted : (c : ContentValue) (xs : List ContentValue) → place c xs < length xs → count_of c xs ≢ 0
counted c [] within = absurd (omega arith)
counted c (x ∷ xs) within = grind (arith, common_steps, counted c xs)

not_counted : (c : ContentValue) (xs : List ContentValue) → length xs ≤ place c xs → count_of c xs ≡ 0
not_counted c [] past = grind (arith, common_steps)
not_counted c (x ∷ xs) past = grind (arith, common_steps, not_counted c xs)

not_removed : (c : ContentValue) (xs : List ContentValue) → length xs ≤ place c xs → xs ≡ without_first c xs
not_removed c [] past = refl
not_removed c (x ∷ xs) past = grind (arith, common_steps, not_removed c xs)

pub remove-found : (c : ContentValue) (xs : List ContentValue) (i : ℕ) → position (λ x. same_content x c) xs ≡ Some i → remove xs i ≡ without_first c xs
remove-found c xs i is = grind (arith, nat_tests, removed c xs)

pub count-found : (c : ContentValue) (xs : List ContentValue) (i : ℕ) → position (λ x. same_content x c) xs ≡ Some i → true ≡ not (count_of c xs == 0)
count-found c xs i is = grind (arith, nat_tests, counted c xs)

pub without_first-missed : (c : ContentValue) (xs : List ContentValue) → position (λ x. same_content x c) xs ≡ None → xs ≡ without_first c xs
without_first-missed c xs is = grind (arith, nat_tests, not_removed c xs)

pub count-missed : (c : ContentValue) (xs : List ContentValue) → position (λ x. same_content x c) xs ≡ None → false ≡ not (count_of c xs == 0)
count-missed c xs is = grind (arith, nat_tests, not_counted c xs)

pub unpaired-same : (free other : ContentValue → ℕ) (xs : List ContentValue) → ((c : ContentValue) → free c ≡ other c) → unpaired free xs ≡ unpaired other xs
unpaired-same free other [] same = refl
unpaired-same free other (x ∷ xs) same = grind
    (arith, common_steps, same x, unpaired-same free other xs same, unpaired-same (less_one free x) (less_one other x) xs (λ c. grind (arith, same c)))

-- one partner that is taken out of a list is one less of its content
pub count-without_first : (o : ContentValue) (xs : List ContentValue) (c : ContentValue) → count_of c (without_first o xs) ≡ less_one (λ x. count_of x xs) o c
count-without_first o [] c = grind (arith, common_steps)
count-without_first o (x ∷ xs) c = grind (arith, common_steps, same_content-same, same_content-is x o, same_content-is o c, count-without_first o xs c)
