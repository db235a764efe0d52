-- A choice depends on what is looked at alone, and writes that it asks for don't change it.
use Rattle.std.proofs.Common.{◌≡◌, ℕ, ◌+◌, ◌<◌, List, ◌∷◌, ◌++◌, refl, ap, arith, true, false, Bool, Some, None, option_to_list, map, if◌then◌else◌, cond}
use Rattle.pdb_values.specs.Contents.{ContentValue}
use Rattle.conduit_rules.specs.Contents.{same_content, count_of}
use Rattle.conduit_rules.specs.States.{SideState, nothing, live, BaseState, no_base}
use Rattle.conduit_rules.specs.Fates.{Fate, fate}
use Rattle.conduit_rules.specs.ById.{id_bound, put}
use Rattle.conduit_rules.specs.News.{more_one, unpaired}
use Rattle.conduit_rules.specs.Choices.{Sides, fate_at, partner, partner_at, partners, offers, choice}
use Rattle.conduit_rules.specs.Writes.{given_to}
use Rattle.conduit_rules.proofs.ByIdLaws.{each_below-same, sum-each_below_put, at_put}
use Rattle.conduit_rules.proofs.NewsLaws.{unpaired-same}
use Rattle.conduit_rules.proofs.PairingLaws.{unpaired-one_more}
use Rattle.conduit_rules.proofs.TableLaws.{fate-again, partner-again}

-- a database whose sides differ in nothing that is looked at
pub same_choice : (s t : Sides) → s.loose_live ≡ t.loose_live → s.loose_archived ≡ t.loose_archived
    → ((i : ℕ) → fate_at s i ≡ fate_at t i) → ((i : ℕ) → partner_at s i ≡ partner_at t i)
    → choice s ≡ choice t
same_choice s t live_same archived_same fates mates =
    let news = each_below-same (λ i. option_to_list (fate_at s i).news) (λ i. option_to_list (fate_at t i).news) id_bound
    (λ i l. ap (λ f. option_to_list (Fate.news f)) (fates i)) in
    let put_away = each_below-same (λ i. map (λ c. (i, c)) (fate_at s i).archive) (λ i. map (λ c. (i, c)) (fate_at t i).archive) id_bound
    (λ i l. ap (λ f. map (λ c. (i, c)) (Fate.archive f)) (fates i)) in
    let partners_same = each_below-same (λ i. option_to_list (partner_at s i)) (λ i. option_to_list (partner_at t i)) id_bound
    (λ i l. ap option_to_list (mates i)) in
    λ k. record {
      keep = λ i. (fates i k).keep;
      archive = map (λ c. (0, c)) (archived_same k) ++ put_away k;
      adds = unpaired (λ c. count_of c (partners_same k)) (live_same k ++ news k);
    }

-- a kept content under its id changes nothing
pub choice-put : (s : Sides) (i : ℕ) (c : ContentValue) → (fate_at s i).keep ≡ Some c → choice (given_to s i c) ≡ choice s
choice-put s i c e = same_choice (given_to s i c) s refl refl
    (at_put (λ j x. fate (s.base j) x (s.desktop j)) s.handheld i (live c) (fate-again (s.base i) (s.handheld i) (s.desktop i) c e))
    (at_put (λ j x. partner (s.base j) x) s.handheld i (live c) (partner-again (s.base i) (s.handheld i) (s.desktop i) c e))

fate-given : (b : BaseState) (h d : SideState) (a : ContentValue) → b ≡ no_base → h ≡ nothing → (fate b (live a) d).archive ≡ (fate b h d).archive
fate-given b h d a none free = grind arith

fate-given_news : (b : BaseState) (h d : SideState) (a : ContentValue) → b ≡ no_base → h ≡ nothing → (fate b (live a) d).news ≡ (fate b h d).news
fate-given_news b h d a none free = grind arith

keep-given : (s : Sides) (g : ℕ) (a : ContentValue) → s.base g ≡ no_base → (j : ℕ)
    → (fate_at (given_to s g a) j).keep ≡ put (λ i. (fate_at s i).keep) g (Some a) j
keep-given s g a none j = grind arith

mate-given : (s : Sides) (g : ℕ) (a : ContentValue) → s.base g ≡ no_base → (j : ℕ)
    → partner (s.base j) (put s.handheld g (live a) j) ≡ put (partner_at s) g (Some a) j
mate-given s g a none j = grind arith

no_mate : (b : BaseState) (h : SideState) → b ≡ no_base → h ≡ nothing → partner b h ≡ None
no_mate b h none free = grind arith

one_more : (b : Bool) (n : ℕ) → n + cond b 1 0 ≡ (if b then n + 1 else n)
one_more true n = refl
one_more false n = omega arith

-- one partner more of the content that was added
pub count-partners_given : (s : Sides) (g : ℕ) (a : ContentValue) → s.base g ≡ no_base → s.handheld g ≡ nothing → g < id_bound → (c : ContentValue)
    → count_of c (partners (given_to s g a)) ≡ more_one (λ x. count_of x (partners s)) a c
count-partners_given s g a none free within c =
    cc (
      each_below-same (λ j. option_to_list (partner_at (given_to s g a) j)) (λ j. option_to_list (put (partner_at s) g (Some a) j)) id_bound (λ j l. ap
          option_to_list (mate-given s g a none j)),
      sum-each_below_put (λ x. cond (same_content x c) 1 0) (partner_at s) g a id_bound (no_mate (s.base g)
          (s.handheld g) none free) within,
      one_more (same_content a c) (count_of c (partners s)),
    )

-- the first add, once it stands under a new id, is kept there, and the others are still to be added
pub choice-add : (s : Sides) (g : ℕ) (a : ContentValue) (rest : List ContentValue) → s.base g ≡ no_base → s.handheld g ≡ nothing → g < id_bound
    → (choice s).adds ≡ a ∷ rest
    → choice (given_to s g a) ≡ record { keep = put (choice s).keep g (Some a); archive = (choice s).archive; adds = rest }
choice-add s g a rest none free within e =
    let t = given_to s g a in
    let news = each_below-same (λ i. option_to_list (fate_at t i).news) (λ i. option_to_list (fate_at s i).news) id_bound
    (λ i l. at_put (λ j x. option_to_list (fate (s.base j) x (s.desktop j)).news) s.handheld g (live a)
    (ap option_to_list (fate-given_news (s.base g) (s.handheld g) (s.desktop g) a none free)) i) in
    let put_away = each_below-same (λ i. map (λ c. (i, c)) (fate_at t i).archive) (λ i. map (λ c. (i, c)) (fate_at s i).archive) id_bound
    (λ i l. at_put (λ j x. map (λ c. (j, c)) (fate (s.base j) x (s.desktop j)).archive) s.handheld g (live a)
    (ap (map (λ c. (g, c))) (fate-given (s.base g) (s.handheld g) (s.desktop g) a none free)) i) in
    let adds : unpaired (λ c. count_of c (partners t)) (offers t) ≡ rest =
    cc (
      unpaired-same (λ c. count_of c (partners t)) (more_one (λ x. count_of x (partners s)) a) (offers s) (count-partners_given s g a none free within),
      unpaired-one_more (λ x. count_of x (partners s)) (offers s) a rest e,
    ) in
    λ k. record {
      keep = λ j. keep-given s g a none j k;
      archive = map (λ c. (0, c)) s.loose_archived ++ put_away k;
      adds = adds k;
    }
