-- A plan in the making, below an id: each of its lists is what the definitions give below that id.
use Rattle.std.proofs.Common.{◌≡◌, ℕ, ◌+◌, ◌≤◌, ◌<◌, ◌^◌, List, [], ◌++◌, ap, sym, arith, Option, None, option_to_list, map, append_assoc, Bool, refl}
use Rattle.std.proofs.Common.{rules}
use Rattle.pdb_values.specs.Contents.{ContentValue}
use Rattle.pdb_values.specs.declared.record.Record.{Record}
use Rattle.conduit_rules.specs.ById.{id_bound, each_below, each_id, with_id}
use Rattle.conduit_rules.specs.Choices.{Sides, fate_for, partner_under, partner_for, loose_for}
use Rattle.conduit_rules.specs.Drafts.{IsDraft, Grew}
use Rattle.conduit_rules.specs.Fates.{Fate, no_fate, fate_under}
use Rattle.conduit_rules.specs.News.{live_contents, archived_records, found_in}
use Rattle.conduit_rules.specs.Plans.{replacement, lost, purged_at}
use Rattle.conduit_rules.specs.States.{SideState, nothing, no_base, first, base_at}
use Rattle.conduit_rules.specs.Views.{first_seen, view_held}
use Rattle.conduit_rules.specs.declared.action.Action.{Action}
use Rattle.conduit_rules.specs.declared.action.Action.TheVariants.{Sync}
use Rattle.conduit_rules.specs.declared.draft.Draft.{Draft}
use Rattle.conduit_rules.specs.declared.view.Seen.{Seen}
use Rattle.conduit_rules.proofs.ByIdLaws.{id_bound-is, each_below-next, each_below-gap, each_below-zero}
use Rattle.std.proofs.lemmas.Grind.{common_steps}
use Rattle.std.proofs.lemmas.Bool.Decides.{nat_tests}

-- what each list gets from one id
abbrev pub kept_at : Action → Sides → ℕ → List (ℕ × ContentValue)
kept_at a s i = with_id i (fate_for a s i).keep

abbrev pub replaced_at : Action → Sides → ℕ → List (ℕ × ContentValue)
replaced_at a s i = with_id i (replacement (fate_for a s i).keep (s.handheld i))

abbrev pub archived_at : Action → Sides → ℕ → List (ℕ × ContentValue)
archived_at a s i = map (λ c. (i, c)) (fate_for a s i).archive

abbrev pub gone_at : Action → Sides → ℕ → List (ℕ × ContentValue)
gone_at a s i = with_id i (lost (fate_for a s i).keep (s.handheld i))

abbrev pub purges_at : Action → Sides → ℕ → List ℕ
purges_at a s i = purged_at (fate_for a s i).keep (s.handheld i) i

abbrev pub mates_at : Action → Sides → ℕ → List ContentValue
mates_at a s i = option_to_list (partner_for a s i)

abbrev pub news_at : Action → Sides → ℕ → List ContentValue
news_at a s i = option_to_list (fate_for a s i).news

-- the lists below an id
pub record IsDraftBelow (a : Action) (s : Sides) (d : Draft) (n : ℕ) : Type 0 where
  pub within : n ≤ 2 ^ 24
  pub kept : d.kept.items ≡ each_below (kept_at a s) n
  pub replace : d.replace.items ≡ each_below (replaced_at a s) n
  pub archive : d.archive.items ≡ each_below (archived_at a s) n
  pub gone : d.gone.items ≡ each_below (gone_at a s) n
  pub purge : d.purge.items ≡ each_below (purges_at a s) n
  pub partners : d.partners.items ≡ each_below (mates_at a s) n
  pub news : d.news.items ≡ each_below (news_at a s) n

-- an id that neither the base nor the handheld has
abbrev pub IsQuiet : Sides → ℕ → Type 0
IsQuiet s i = (s.base i ≡ no_base) × (s.handheld i ≡ nothing)

none_fate : (a : Action) (d : SideState) → fate_under a no_base nothing d ≡ no_fate
none_fate Sync d = refl
none_fate a d = refl

none_partner : (a : Action) → partner_under a no_base nothing ≡ None
none_partner Sync = refl
none_partner a = refl

quiet_fate : (a : Action) (s : Sides) (i : ℕ) → IsQuiet s i → fate_for a s i ≡ no_fate
quiet_fate a s i quiet = grind (arith, common_steps, nat_tests, none_fate)

quiet_both : (a : Action) (s : Sides) (i : ℕ) → IsQuiet s i → ◌≡◌ {A = Fate × SideState} (fate_for a s i, s.handheld i) (no_fate, nothing)
quiet_both a s i quiet = λ k. (quiet_fate a s i quiet k, quiet.1 k)

quiet_partner : (a : Action) (s : Sides) (i : ℕ) → IsQuiet s i → partner_for a s i ≡ None
quiet_partner a s i quiet = grind (arith, common_steps, nat_tests, none_partner)

grown : {A : Type 0} (f : ℕ → List A) (n i : ℕ) (xs old new : List A) → old ≡ xs ++ each_below f n → new ≡ old ++ f i → n ≤ i
    → ((j : ℕ) → n ≤ j → j < i → f j ≡ []) → new ≡ xs ++ each_below f (i + 1)
grown f n i xs old new was is rising none =
    cc (append_assoc xs (each_below f n) (f i), each_below-next f n i rising none)

-- one id more, where those between are quiet
pub draft-next : (a : Action) (s : Sides) (d e : Draft) (n i : ℕ) → IsDraftBelow a s d n → Grew d e i (fate_for a s i) (s.handheld i) (partner_for a s i)
    → n ≤ i → i < 2 ^ 24 → ((j : ℕ) → n ≤ j → j < i → IsQuiet s j) → IsDraftBelow a s e (i + 1)
draft-next a s d e n i was grew rising within quiet = record {
  within = omega arith;
  kept = grown (kept_at a s) n i [] d.kept.items e.kept.items was.kept grew.kept rising
      (λ j l r. ap (λ f. with_id j (Fate.keep f)) (quiet_fate a s j (quiet j l r)));
  replace = grown (replaced_at a s) n i [] d.replace.items e.replace.items was.replace grew.replace rising
      (λ j l r. ap (λ p. with_id j (replacement (Fate.keep p.0) p.1)) (quiet_both a s j (quiet j l r)));
  archive = grown (archived_at a s) n i [] d.archive.items e.archive.items was.archive grew.archive rising
      (λ j l r. ap (λ f. map (λ c. (j, c)) (Fate.archive f)) (quiet_fate a s j (quiet j l r)));
  gone = grown (gone_at a s) n i [] d.gone.items e.gone.items was.gone grew.gone rising
      (λ j l r. ap (λ p. with_id j (lost (Fate.keep p.0) p.1)) (quiet_both a s j (quiet j l r)));
  purge = grown (purges_at a s) n i [] d.purge.items e.purge.items was.purge grew.purge rising
      (λ j l r. ap (λ p. purged_at (Fate.keep p.0) p.1 j) (quiet_both a s j (quiet j l r)));
  partners = grown (mates_at a s) n i [] d.partners.items e.partners.items was.partners grew.partners rising
      (λ j l r. ap option_to_list (quiet_partner a s j (quiet j l r)));
  news = grown (news_at a s) n i [] d.news.items e.news.items was.news grew.news rising
      (λ j l r. ap (λ f. option_to_list (Fate.news f)) (quiet_fate a s j (quiet j l r)));
}

ended : {A : Type 0} (f : ℕ → List A) (n : ℕ) → n ≤ 2 ^ 24 → ((j : ℕ) → n ≤ j → f j ≡ []) → each_below f n ≡ each_id f
ended f n within none = sym (each_below-gap f n id_bound (omega (arith, id_bound-is)) (λ j l r. none j l))

-- no id is left
pub draft-end : (a : Action) (s : Sides) (d : Draft) (n : ℕ) → IsDraftBelow a s d n → ((j : ℕ) → n ≤ j → IsQuiet s j) → IsDraft a s d
draft-end a s d n was quiet = search (rules, ended, quiet_fate, quiet_both, quiet_partner)

pub base_at-none : (base : List Record) (gone_counts : Bool) (j : ℕ) → first j base ≡ None → base_at base gone_counts j ≡ no_base
base_at-none base gone_counts j none = grind arith

pub view_held-none : (view : List Seen) (j : ℕ) → first_seen j view ≡ None → view_held view j ≡ nothing
view_held-none view j none = grind arith

-- the lists before any id
pub draft-start : (a : Action) (s : Sides) (d : Draft) → d.kept.items ≡ [] → d.replace.items ≡ [] → d.archive.items ≡ [] → d.gone.items ≡ []
    → d.purge.items ≡ []
    → d.partners.items ≡ [] → d.news.items ≡ [] → IsDraftBelow a s d 0
draft-start a s d kept replace archive gone purge partners news = search (rules, each_below-zero)

-- the rows that count where they are without a base row
pub loose_counted : (a : Action) (slots counted : List (Option Record)) → counted ≡ loose_for a slots slots
    → (live_contents (found_in counted) ≡ loose_for a (live_contents (found_in slots)) (live_contents (found_in slots))) ×
    (archived_records (found_in counted) ≡ loose_for a (archived_records (found_in slots)) (archived_records (found_in slots)))
loose_counted a slots counted is = grind (arith, common_steps, nat_tests)

pub map-loose_for : {A B : Type 0} (a : Action) (f : A → B) (xs counted : List A) → counted ≡ loose_for a xs xs
    → map f counted ≡ loose_for a (map f xs) (map f xs)
map-loose_for Sync f xs counted is = cc
map-loose_for a f xs counted is = cc
