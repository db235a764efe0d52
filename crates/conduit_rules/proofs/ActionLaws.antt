-- What a database that goes by one side gets.
use Rattle.std.proofs.Common.{◌≡◌, ℕ, List, [], ◌∷◌, ◌++◌, refl, ap, ◌∙◌, arith, Option, Some, None, map, option_to_list, append-nil}
use Rattle.pdb_values.specs.Contents.{ContentValue}
use Rattle.conduit_rules.specs.ById.{id_bound, with_id}
use Rattle.conduit_rules.specs.Choices.{Sides, choice_for, fate_for, by_handheld, by_desktop, row_of}
use Rattle.conduit_rules.specs.Contents.{count_of}
use Rattle.conduit_rules.specs.Fates.{desktop_fate}
use Rattle.conduit_rules.specs.News.{unpaired}
use Rattle.conduit_rules.specs.Plans.{replacement, purged_at, replaced_rows, purged_ids}
use Rattle.conduit_rules.specs.States.{SideState, nothing, live, live_of, archived_of, BaseState, no_base, row}
use Rattle.conduit_rules.specs.declared.action.Action.TheVariants.{Handheld, Desktop}
use Rattle.conduit_rules.proofs.ByIdLaws.{each_below-same, each_below-none}
use Rattle.conduit_rules.proofs.ContentLaws.{same_content-same}
use Rattle.std.proofs.lemmas.Grind.{common_steps}
use Rattle.std.proofs.lemmas.Bool.Decides.{nat_tests}

pub put_away_one : (i : ℕ) (o : Option ContentValue) → map (λ c. (i, c)) (option_to_list o) ≡ with_id i o
put_away_one i None = refl
put_away_one i (Some c) = refl

pub handheld-is : (s : Sides) → choice_for Handheld s ≡ by_handheld s
handheld-is s = grind (arith, common_steps, nat_tests, each_below-none, each_below-same, put_away_one)

kept_replacement : (h : SideState) → replacement (live_of h) h ≡ None
kept_replacement (live c) = grind (arith, same_content-same c)
kept_replacement h = refl

kept_purge : (h : SideState) (i : ℕ) → purged_at (live_of h) h i ≡ []
kept_purge nothing i = refl
kept_purge h i = refl

-- nothing is written over, and nothing is deleted one by one
pub handheld-unwritten : (s : Sides) → (replaced_rows (choice_for Handheld s).keep s.handheld ≡ []) × (purged_ids (choice_for Handheld s).keep s.handheld ≡ [])
handheld-unwritten s = grind (arith, common_steps, nat_tests, each_below-none, kept_replacement, kept_purge)

keeps : (b : BaseState) (d : SideState) → (desktop_fate b d).keep ≡ live_of (row_of b d)
keeps no_base d = refl
keeps b d = refl

puts_away : (i : ℕ) (b : BaseState) (d : SideState) → map (λ c. (i, c)) (desktop_fate b d).archive ≡ with_id i (archived_of (row_of b d))
puts_away i (row b) d = put_away_one i (archived_of d)
puts_away i b d = refl

no_news : (b : BaseState) (d : SideState) → option_to_list (desktop_fate b d).news ≡ []
no_news no_base d = refl
no_news b d = refl

none_free : (xs : List ContentValue) → unpaired (λ c. count_of c []) xs ≡ xs
none_free [] = refl
none_free (x ∷ xs) = cc (none_free xs)

pub desktop-is : (s : Sides) → choice_for Desktop s ≡ by_desktop s
desktop-is s =
    let put_away = each_below-same (λ i. map (λ c. (i, c)) (fate_for Desktop s i).archive) (λ i. with_id i (archived_of (row_of (s.base i) (s.desktop i))))
    id_bound (λ i l. puts_away i (s.base i) (s.desktop i)) in
    let adds : (choice_for Desktop s).adds ≡ s.loose_live =
    ap {A = List ContentValue × List ContentValue} (λ p. unpaired (λ c. count_of c p.0) (s.loose_live ++ p.1))
    (λ k. (
      each_below-none {A = ContentValue} (λ i. []) id_bound (λ i. refl) k,
      each_below-none (λ i. option_to_list (fate_for Desktop s i).news) id_bound
          (λ i. no_news (s.base i) (s.desktop i)) k,
    ))
    ∙ ap (unpaired (λ c. count_of c [])) (append-nil s.loose_live)
    ∙ none_free s.loose_live in
    λ k. record { keep = λ i. keeps (s.base i) (s.desktop i) k; archive = map (λ c. (0, c)) s.loose_archived ++ put_away k; adds = adds k }
