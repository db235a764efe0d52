-- Contents in buckets: how often each stands in its bucket once one is put in or taken out.
use Rattle.std.proofs.Common.{◌≡◌, ◌≢◌, ℕ, ◌+◌, ◌-◌, ◌<◌, ◌==◌, List, [], ◌∷◌, ◌++◌, refl, ap, sym, arith, Bool, true, false, cond, if◌then◌else◌}
use Rattle.std.proofs.Common.{length, take, drop, get_or, set, map, not, append_assoc}
use Rattle.std.proofs.lemmas.Grind.{common_steps}
use Rattle.std.proofs.lemmas.Bool.Decides.{nat_tests}
use Rattle.std.proofs.lemmas.List.{take_more, at_drop_more, get_or-set_same, get_or-set_other, get_or-map, map-set, length-map}
use Rattle.std.proofs.Math.Nat.{mod-lt}
use Rattle.pdb_values.specs.Contents.{ContentValue}
use Rattle.conduit_rules.specs.Buckets.{spread_of, bucket_of, free_in}
use Rattle.conduit_rules.specs.Contents.{same_content, count_of}
use Rattle.conduit_rules.specs.News.{less_one, unpaired, without_first}
use Rattle.conduit_rules.proofs.ContentLaws.{same_content-is}
use Rattle.conduit_rules.proofs.NewsLaws.{unpaired-same, count-without_first}

pub set-len : {A : Type 0} (xs : List A) (i : ℕ) (a : A) → length (set xs i a) ≡ length xs
set-len xs i a = grind (arith, common_steps)

-- with the bucket of a content changed, the counts of those in other buckets stay
free-set : (bs : List (List ContentValue)) (o c : ContentValue) (new : List ContentValue) (n : ℕ) → bucket_of (length bs) o < length bs
    → (bucket_of (length bs) c ≡ bucket_of (length bs) o → count_of c new ≡ n) → (bucket_of (length bs) c ≢ bucket_of (length bs) o → free_in bs c ≡ n)
    → free_in (set bs (bucket_of (length bs) o) new) c ≡ n
free-set bs o c new n within here other = grind (arith, common_steps, nat_tests, set-len, get_or-set_same, get_or-set_other)

-- contents in different buckets differ
apart_contents : (n : ℕ) (o c : ContentValue) → bucket_of n c ≢ bucket_of n o → same_content o c ≡ false
apart_contents n o c apart = go (same_content o c) refl
  where
    go : (b : Bool) → same_content o c ≡ b → same_content o c ≡ false
    go true is = absurd (apart (sym (ap (bucket_of n) (same_content-is o c is))))
    go false is = is

count-push : (c o : ContentValue) (xs : List ContentValue) → count_of c (xs ++ o ∷ []) ≡ count_of c xs + cond (same_content o c) 1 0
count-push c o [] = grind (arith, common_steps)
count-push c o (x ∷ xs) = grind (arith, common_steps, count-push c o xs)

plus_none : (n : ℕ) (b : Bool) → b ≡ false → n ≡ n + cond b 1 0
plus_none n true is = cc
plus_none n false is = omega arith

less_none : (n : ℕ) (b : Bool) → b ≡ false → n ≡ (if b then n - 1 else n)
less_none n true is = cc
less_none n false is = refl

-- a content is put into its bucket
free-put : (bs : List (List ContentValue)) (o c : ContentValue) → bucket_of (length bs) o < length bs
    → free_in (set bs (bucket_of (length bs) o) (get_or bs (bucket_of (length bs) o) [] ++ o ∷ [])) c ≡ free_in bs c + cond (same_content o c) 1 0
free-put bs o c within = grind (arith, common_steps, nat_tests, free-set, count-push, plus_none, apart_contents)

-- a content is taken out of its bucket
pub free-taken : (bs : List (List ContentValue)) (o c : ContentValue) → bucket_of (length bs) o < length bs
    → free_in (set bs (bucket_of (length bs) o) (without_first o (get_or bs (bucket_of (length bs) o) []))) c ≡ less_one (free_in bs) o c
free-taken bs o c within = grind (arith, common_steps, nat_tests, free-set, count-without_first, less_none, apart_contents)

-- one content more
pub free-next : (bs : List (List ContentValue)) (xs : List ContentValue) (k : ℕ) (o c : ContentValue) → bucket_of (length bs) o < length bs → k < length xs
    → o ≡ get_or xs k o
    → free_in bs c ≡ count_of c (take k xs) → free_in (set bs (bucket_of (length bs) o) (get_or bs (bucket_of (length bs) o) [] ++ o ∷ [])) c ≡ count_of c
    (take (k + 1) xs)
free-next bs xs k o c within in_xs is so_far =
    cc (free-put bs o c within, count-push c o (take k xs), take_more xs k o in_xs)

none_left : (free : ContentValue → ℕ) (o c : ContentValue) → free o ≡ 0 → less_one free o c ≡ free c
none_left free o c none = grind (arith, same_content-is o c)

-- one offer
offer-step : (free then_free : ContentValue → ℕ) (o : ContentValue) (rest : List ContentValue) → ((c : ContentValue) → then_free c ≡ less_one free o c)
    → unpaired free (o ∷ rest) ≡ (if not (free o == 0) then [] else o ∷ []) ++ unpaired then_free rest
offer-step free then_free o rest taken = grind (arith, common_steps, nat_tests, unpaired-same, none_left)

-- the step of the loop over the offers
pub offers-next : (adds : List ContentValue) (free then_free : ContentValue → ℕ) (offers : List ContentValue) (k : ℕ) (o : ContentValue) → k < length offers
    → o ≡ get_or offers k o
    → ((c : ContentValue) → then_free c ≡ less_one free o c)
    → adds ++ unpaired free (drop k offers) ≡ (adds ++ (if not (free o == 0) then [] else o ∷ [])) ++ unpaired then_free (drop (k + 1) offers)
offers-next adds free then_free offers k o within is taken = grind (arith, common_steps, nat_tests, at_drop_more, offer-step, append_assoc)

in_range : (bs : List (List ContentValue)) (o : ContentValue) → 0 < length bs → bucket_of (length bs) o < length bs
in_range bs o some = mod-lt (spread_of o.bytes) some

-- the bucket of a content in a list of what has buckets is changed
changed : {V : Type 0} (f : V → List ContentValue) (bs : List V) (place : ℕ) (bucket new : V) (o : ContentValue) (g : List ContentValue → List ContentValue)
    → 0 < length bs
    → place ≡ bucket_of (length bs) o → bucket ≡ get_or bs place bucket → f new ≡ g (f bucket)
    → map f (set bs place new) ≡ set (map f bs) (bucket_of (length (map f bs)) o) (g (get_or (map f bs) (bucket_of (length (map f bs)) o) []))
changed f bs place bucket new o g some at is now = grind (arith, common_steps, nat_tests, length-map, mod-lt, get_or-map, map-set)

pub taken-in : {V : Type 0} (f : V → List ContentValue) (bs : List V) (place : ℕ) (bucket new : V) (o c : ContentValue) → 0 < length bs
    → place ≡ bucket_of (length bs) o → bucket ≡ get_or bs place bucket
    → f new ≡ without_first o (f bucket) → free_in (map f (set bs place new)) c ≡ less_one (free_in (map f bs)) o c
taken-in f bs place bucket new o c some at is now =
    cc (changed f bs place bucket new o (without_first o) some at is now, free-taken (map f bs) o c (in_range (map f bs) o (rw (length-map bs f) some)))

pub put-in : {V : Type 0} (f : V → List ContentValue) (bs : List V) (place : ℕ) (bucket new : V) (xs : List ContentValue) (k : ℕ) (o c : ContentValue)
    → 0 < length bs → place ≡ bucket_of (length bs) o
    → bucket ≡ get_or bs place bucket → f new ≡ f bucket ++ o ∷ [] → k < length xs → o ≡ get_or xs k o → free_in (map f bs) c ≡ count_of c (take k xs)
    → free_in (map f (set bs place new)) c ≡ count_of c (take (k + 1) xs)
put-in f bs place bucket new xs k o c some at is now within from so_far =
    cc (
      changed f bs place bucket new o (λ ys. ys ++ o ∷ []) some at is now,
      free-next (map f bs) xs k o c (in_range (map f bs) o (rw (length-map bs f) some))
          within from so_far,
    )
