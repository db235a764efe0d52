-- What one session of both sides loses: contents that the other side changed or deleted.
use Rattle.std.proofs.lemmas.Bool.{cases_Bool, or_right}
use Rattle.std.proofs.lemmas.Bool.Decides.{nat_tests}
use Rattle.std.proofs.Common.{◌≡◌, ◌⊎◌, ⊎_elim, inl, inr, ℕ, ◌<◌, ◌==◌, ◌||◌, List, refl, ap, ◌∙◌, sym, subst, arith, rules, true, false, Bool, Option}
use Rattle.std.proofs.Common.{Some, if◌then◌else◌, nat_lt}
use Rattle.pdb_values.specs.Contents.{ContentValue}
use Rattle.pdb_values.specs.declared.record.Record.{Record}
use Rattle.conduit_rules.specs.ById.{id_bound}
use Rattle.conduit_rules.specs.Choices.{contents_of}
use Rattle.conduit_rules.specs.Contents.{same_content}
use Rattle.conduit_rules.specs.Fates.{cell, fate, named, stands}
use Rattle.conduit_rules.specs.News.{loose}
use Rattle.conduit_rules.specs.States.{BaseState, SideState, nothing, live, archived, no_base, row, gone, base_at, based_where, content_of, first, has_row}
use Rattle.conduit_rules.specs.States.{held, held_where, is_row}
use Rattle.conduit_rules.specs.declared.action.Action.{Action}
use Rattle.conduit_rules.specs.declared.action.Action.TheVariants.{Sync}
use Rattle.conduit_rules.proofs.ContentLaws.{same_content-is, same_content-same}
use Rattle.conduit_rules.proofs.KeptLaws.{desktop_change_stays, gone_change_stays, handheld_change_stays, new_stays}
use Rattle.record_merge.specs.Merging.{AreBounded}
use Rattle.record_merge.proofs.CountLaws.{new-free}
use Rattle.record_merge.proofs.PutLaws.{differ-ids}
use Rattle.record_merge.proofs.ShownLaws.{bounded-none}
use Rattle.front_laws.specs.Repeats.{Finding, GotAllIds, chosen, ended, shown, sides}
use Rattle.front_laws.specs.Lives.{IsFound, WasLetGoOnDesktop, WasLetGoOnHandheld, is_live_in, is_there}
use Rattle.front_laws.proofs.ChosenLaws.{IsChosen, chosen-merged, loose-chosen, named-chosen}
use Rattle.front_laws.proofs.StandLaws.{IsUnder, live_in-held, loose-or}

-- ---- the table

pub same-or : (c b : ContentValue) → (c ≡ b) ⊎ (same_content c b ≡ false)
same-or c b = ⊎_elim (λ (is : same_content c b ≡ true). inl (same_content-is c b is)) inr (cases_Bool (same_content c b))

abbrev has_it : ContentValue → SideState → Bool
has_it c nothing = false
has_it c (live x) = same_content x c
has_it c (archived x) = same_content x c

content-or : (c : ContentValue) (h : SideState) → (content_of h ≡ Some c) ⊎ (content_of h ≡ Some c → ⊥)
content-or c h = ⊎_elim (λ (is : has_it c h ≡ true). inl (has h is)) (λ (none : has_it c h ≡ false). inr (has_none h none)) (cases_Bool (has_it c h))
  where
    has : (h : SideState) → has_it c h ≡ true → content_of h ≡ Some c
    has nothing is = absurd (cc)
    has (live x) is = ap Some (same_content-is x c is)
    has (archived x) is = ap Some (same_content-is x c is)

    has_none : (h : SideState) → has_it c h ≡ false → content_of h ≡ Some c → ⊥
    has_none h none is = grind (arith, same_content-same c, none, is)

cell-desktop : (c : ContentValue) (h : SideState) → content_of h ≡ Some c → stands c (named (cell c h (live c))) ≡ true
cell-desktop c h is = search (rules, same_content-same, same_content-is)

cell-handheld : (c : ContentValue) (d : SideState) → content_of d ≡ Some c → stands c (named (cell c (live c) d)) ≡ true
cell-handheld c d is = search (rules, same_content-same, same_content-is)

-- what the handheld has is named, but where the base has it and the desktop doesn't
held-named : (c : ContentValue) (b : BaseState) (d : SideState)
    → (stands c (named (fate b (live c) d)) ≡ true) ⊎ ((b ≡ gone c) ⊎ ((b ≡ row c) × (content_of d ≡ Some c → ⊥)))
held-named c no_base d = inl (new_stays c (live c) refl)
held-named c (row b) d =
    ⊎_elim (λ (same : c ≡ b). ⊎_elim (λ (has : content_of d ≡ Some c).
    inl (subst (λ x. stands c (named (cell x (live c) d)) ≡ true) same (cell-handheld c d has)))
    (λ (none : content_of d ≡ Some c → ⊥). inr (inr (ap row (sym same), none))) (content-or c d))
    (λ (other : same_content c b ≡ false). inl (handheld_change_stays b c (live c) d refl other)) (same-or c b)
held-named c (gone b) d =
    ⊎_elim (λ (same : c ≡ b). inr (inl (ap gone (sym same))))
    (λ (other : same_content c b ≡ false). inl (gone_change_stays b c (live c) refl other)) (same-or c b)

-- and so is what the desktop's row of an id with a base row has
row-named : (c b : ContentValue) (h : SideState) → (stands c (named (cell b h (live c))) ≡ true) ⊎ ((b ≡ c) × (content_of h ≡ Some c → ⊥))
row-named c b h =
    ⊎_elim (λ (same : c ≡ b). ⊎_elim (λ (has : content_of h ≡ Some c).
    inl (subst (λ x. stands c (named (cell x h (live c))) ≡ true) same (cell-desktop c h has)))
    (λ (none : content_of h ≡ Some c → ⊥). inr (sym same, none)) (content-or c h))
    (λ (other : same_content c b ≡ false). inl (desktop_change_stays b c h (live c) refl other)) (same-or c b)

-- ---- base rows

-- a base row that isn't gone counts either way
pub row-either : (base : List Record) (i : ℕ) (g k : Bool) (c : ContentValue) → base_at base g i ≡ row c → base_at base k i ≡ row c
row-either base i g k c is = by (i == 0) (first i base) is
  where
    by : (zero : Bool) (o : Option Record) → (if zero then no_base else based_where g o) ≡ row c → (if zero then no_base else based_where k o) ≡ row c
    by zero o is = grind (arith, is)

pub has_row-is : (base : List Record) (i : ℕ) (g : Bool) → has_row base i ≡ true → (b : ContentValue) × (base_at base g i ≡ row b)
has_row-is base i g is = by (base_at base false i) refl is
  where
    by : (b : BaseState) → base_at base false i ≡ b → is_row b ≡ true → (b : ContentValue) × (base_at base g i ≡ row b)
    by no_base at is = absurd (cc)
    by (row b) at is = (b, row-either base i false g b at)
    by (gone b) at is = absurd (cc)

-- ---- one session

pub below-bound : (c : ContentValue) (records : List Record) (i : ℕ) → AreBounded records → held records i ≡ live c → i < id_bound
below-bound c records i bounded is = by (nat_lt i id_bound) refl
  where
    by : (b : Bool) → nat_lt i id_bound ≡ b → i < id_bound
    by true below = inside i id_bound below
      where
        inside : (i n : ℕ) → nat_lt i n ≡ true → i < n
        inside i n l = grind (arith, nat_tests, l)
    by false over = absurd (let no : nothing ≡ live c = ap held_where (sym (bounded-none records i bounded over)) ∙ is in cc)

module _ (x : Finding) (c : ContentValue) (found : IsFound x) where
  pub held-chosen : (i : ℕ) → held x.records i ≡ live c → IsChosen (chosen Sync x) c ⊎ WasLetGoOnDesktop c x i
  held-chosen i is =
      let on : shown x i ≡ live c = found.read.shows i ∙ is in
      let b = base_at x.base x.gone_counts i in
      ⊎_elim (λ (there : stands c (named (fate b (live c) (held x.rows i))) ≡ true).
      inl (named-chosen Sync (sides x) i c (below-bound c x.records i found.read.bounded is)
      (ap (λ h. stands c (named (fate b h (held x.rows i)))) on ∙ there)))
      (λ (other : (b ≡ gone c) ⊎ ((b ≡ row c) × (content_of (held x.rows i) ≡ Some c → ⊥))). inr (record { handheld = is; other = other }))
      (held-named c b (held x.rows i))

  pub row-chosen : (i : ℕ) → IsUnder c (has_row x.base) x.rows i → IsChosen (chosen Sync x) c ⊎ WasLetGoOnHandheld c x i
  row-chosen i is =
      let counted = has_row-is x.base i x.gone_counts is.based in
      let h = shown x i in
      ⊎_elim (λ (there : stands c (named (cell counted.0 h (live c))) ≡ true).
      inl (named-chosen Sync (sides x) i c (below-bound c x.rows i found.rows is.live)
      ((λ k. stands c (named (fate (counted.1 k) h (is.live k)))) ∙ there)))
      (λ (other : (counted.0 ≡ c) × (content_of h ≡ Some c → ⊥)).
      inr (record {
        base = counted.1 ∙ ap row other.0;
        desktop = is.live;
        handheld = λ has. other.1 (ap content_of (found.read.shows i) ∙ has);
      }))
      (row-named c counted.0 h)

  pub live-chosen : is_live_in c x.rows ≡ true → IsChosen (chosen Sync x) c ⊎ ((i : ℕ) × WasLetGoOnHandheld c x i)
  live-chosen is =
      ⊎_elim (λ (free : is_live_in c (loose (has_row x.base) x.rows) ≡ true). inl (loose-chosen Sync (sides x) c free))
      (λ (under : (i : ℕ) × IsUnder c (has_row x.base) x.rows i).
      ⊎_elim inl (λ (gone : WasLetGoOnHandheld c x under.0). inr (under.0, gone)) (row-chosen under.0 under.1))
      (loose-or c (has_row x.base) x.rows is)

-- what is chosen is there at the end
pub chosen-rows : (a : Action) (x : Finding) (given : List ℕ) (c : ContentValue) → IsFound x → GotAllIds a x given → IsChosen (chosen a x) c
    → (is_live_in c (ended a x given).rows || stands c (contents_of (ended a x given).archive)) ≡ true
chosen-rows a x given c found got is =
    chosen-merged (chosen a x) given x.archive c (new-free (chosen a x) (shown x) given x.records found.read.shows got.got) got.each is

pub chosen-there : (a : Action) (x : Finding) (given : List ℕ) (c : ContentValue) → IsFound x → GotAllIds a x given → IsChosen (chosen a x) c
    → is_there c (ended a x given) ≡ true
chosen-there a x given c found got is =
    or_right (is_live_in c (ended a x given).records) (is_live_in c (ended a x given).rows || stands c (contents_of (ended a x given).archive))
    (chosen-rows a x given c found got is)

pub desktop-loss : (x : Finding) (given : List ℕ) (c : ContentValue) → IsFound x → GotAllIds Sync x given → is_live_in c x.rows ≡ true
    → is_there c (ended Sync x given) ≡ false → (i : ℕ) × WasLetGoOnHandheld c x i
desktop-loss x given c found got is none =
    ⊎_elim (λ (stays : IsChosen (chosen Sync x) c). absurd (let no : true ≡ false = sym (chosen-there Sync x given c found got stays) ∙ none in cc))
    (λ (gone : (i : ℕ) × WasLetGoOnHandheld c x i). gone) (live-chosen x c found is)

pub handheld-loss : (x : Finding) (given : List ℕ) (c : ContentValue) → IsFound x → GotAllIds Sync x given → is_live_in c x.records ≡ true
    → is_there c (ended Sync x given) ≡ false → (i : ℕ) × WasLetGoOnDesktop c x i
handheld-loss x given c found got is none =
    let under = live_in-held c x.records (differ-ids x.records found.read.ids) is in
    ⊎_elim (λ (stays : IsChosen (chosen Sync x) c). absurd (let no : true ≡ false = sym (chosen-there Sync x given c found got stays) ∙ none in cc))
    (λ (gone : WasLetGoOnDesktop c x under.0). (under.0, gone)) (held-chosen x c found under.0 under.1)
