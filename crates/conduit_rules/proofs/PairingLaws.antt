-- Pairing by counts: of each content the greater of the two counts is kept.
use Rattle.std.proofs.Common.{◌≡◌, ◌≢◌, ◌≤◌, ℕ, ◌+◌, ◌-◌, List, [], ◌∷◌, refl, max, arith}
use Rattle.std.proofs.lemmas.Grind.{common_steps}
use Rattle.pdb_values.specs.Contents.{ContentValue}
use Rattle.conduit_rules.specs.Contents.{count_of}
use Rattle.conduit_rules.specs.News.{less_one, more_one, unpaired}
use Rattle.conduit_rules.proofs.ContentLaws.{same_content-same, same_content-is}
use Rattle.conduit_rules.proofs.NewsLaws.{unpaired-same}

-- how often a content is left without a partner
pub count-unpaired : (c : ContentValue) (free : ContentValue → ℕ) (xs : List ContentValue) → count_of c (unpaired free xs) ≡ count_of c xs - free c
count-unpaired c free [] = omega arith
count-unpaired c free (x ∷ xs) = grind (
  arith,
  common_steps,
  same_content-same,
  same_content-is x c,
  same_content-is c x,
  count-unpaired c free xs,
  count-unpaired c (less_one free x) xs,
)

first_counted : (x : ContentValue) (xs : List ContentValue) → count_of x (x ∷ xs) ≢ 0
first_counted x xs = grind (arith, common_steps, same_content-same x)

none_left : (xs : List ContentValue) → ((c : ContentValue) → count_of c xs ≡ 0) → xs ≡ []
none_left [] none = refl
none_left (x ∷ xs) none = absurd (first_counted x xs (none x))

-- where the handheld has each of them as often, all are paired
pub unpaired-none : (mates news : List ContentValue) → ((c : ContentValue) → count_of c news ≤ count_of c mates) → unpaired (λ x. count_of x mates) news ≡ []
unpaired-none mates news fewer =
    none_left (unpaired (λ x. count_of x mates) news) (λ c. let few = fewer c in omega (arith, count-unpaired c (λ x. count_of x mates) news, few))

-- the new records of the handheld and the adds together have each content as often as the side that has it more often
pub greater_kept : (c : ContentValue) (mates news : List ContentValue)
    → count_of c mates + count_of c (unpaired (λ x. count_of x mates) news) ≡ max (count_of c mates) (count_of c news)
greater_kept c mates news = omega (arith, count-unpaired c (λ x. count_of x mates) news)

back : (free : ContentValue → ℕ) (x c : ContentValue) → less_one (more_one free x) x c ≡ free c
back free x c = grind arith

swap : (free : ContentValue → ℕ) (x a c : ContentValue) → free x ≢ 0 → less_one (more_one free a) x c ≡ more_one (less_one free x) a c
swap free x a c some = grind (arith, same_content-is, same_content-same)

-- with one more partner of the first that has none, the rest is what is left
pub unpaired-one_more : (free : ContentValue → ℕ) (xs : List ContentValue) (a : ContentValue) (rest : List ContentValue) → unpaired free xs ≡ a ∷ rest
    → unpaired (more_one free a) xs ≡ rest
unpaired-one_more free [] a rest e = cc
unpaired-one_more free (x ∷ xs) a rest e =
    grind (
      arith,
      common_steps,
      same_content-same,
      unpaired-one_more (less_one free x) xs a rest,
      unpaired-same (less_one (more_one free x) x) free xs
          (back free x),
      λ (some : free x ≢ 0). unpaired-same (less_one (more_one free a) x) (more_one (less_one free x) a) xs (λ c. swap free x a c some),
    )
