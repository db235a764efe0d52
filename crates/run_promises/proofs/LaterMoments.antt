-- What holds of each moment of two stretches holds of each of the later one.
use Rattle.std.proofs.Common.{◌≡◌, ◌∙◌, ap, sym, subst, List, [], ◌∷◌, ◌++◌, append_assoc}
use Rattle.std.specs.Prelude.{Option, Some, None}
use Rattle.std.specs.Option.{option_map}
use Rattle.std.specs.List.{AllByRecursion}
use Rattle.std.proofs.lemmas.List.{append_cancel_left}
use Rattle.hs_folders.specs.FileMaps.{FileMap}
use Rattle.hs_folders.specs.Moments.{EachMomentSince, Moments}
use Rattle.hs_folders.proofs.MomentLaws.{joined, no_moment}

behind : (P : Option FileMap → Type 0) (xs ys : List (Option FileMap)) → AllByRecursion P (xs ++ ys) → AllByRecursion P ys
behind P [] ys all = all
behind P (x ∷ xs) ys all = behind P xs ys all.1

added-alike : (old : List (Option FileMap)) (xs ys zs : List (Option FileMap)) → Some (old ++ (xs ++ ys)) ≡ Some (old ++ zs) → xs ++ ys ≡ zs
added-alike old xs ys zs same = append_cancel_left old (xs ++ ys) zs (some-same same)
  where
    some-same : {a b : List (Option FileMap)} → Some a ≡ Some b → a ≡ b
    some-same same = cc

untold : (xs ys zs : List (Option FileMap)) (mid now : Moments) → mid ≡ option_map (λ moments. moments ++ xs) None
    → now ≡ option_map (λ moments. moments ++ zs) None → now ≡ mid
untold xs ys zs mid now first all = all ∙ sym first

pub moments-later : {P Q R : Option FileMap → Type 0} (old mid now : Moments) → EachMomentSince P old mid → EachMomentSince Q mid now
    → EachMomentSince R old now → EachMomentSince R mid now
moments-later {R} None mid now first later all =
    no_moment R mid now (untold first.added later.added all.added mid now first.is all.is)
moments-later {R} (Some old) mid now first later all =
    let whole = later.is ∙ ap (option_map (λ moments. moments ++ later.added)) first.is ∙ joined first.added later.added (Some old) in
    let same = added-alike old first.added later.added all.added (sym whole ∙ all.is) in
    record {
      added = later.added;
      is = later.is;
      each = behind R first.added later.added (subst (λ (moments : List (Option FileMap)). AllByRecursion R moments) (sym same) all.each);
    }
