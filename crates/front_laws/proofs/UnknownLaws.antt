-- An id that was given was that of no record before.
use Rattle.std.proofs.lemmas.Grind.{common_steps}
use Rattle.std.proofs.Common.{◌≡◌, ◌∙◌, ◌<◌, ap, sym, ℕ, zero, suc, true, false, List, [], ◌∷◌, ◌++◌, length, take, arith, is_some}
use Rattle.std.specs.Prelude.{Option, None}
use Rattle.std.specs.List.{AllByRecursion}
use Rattle.pdb_values.specs.Contents.{ContentValue}
use Rattle.pdb_values.specs.declared.record.Record.{Record}
use Rattle.palm_device.specs.Records.{put_record}
use Rattle.conduit_rules.specs.Plans.{replaced_rows}
use Rattle.conduit_rules.specs.States.{BaseState, base_at, based_under, first, no_base}
use Rattle.conduit_rules.specs.declared.action.Action.{Action}
use Rattle.record_merge.specs.Stops.{NoBase}
use Rattle.record_merge.specs.Writes.{AreFree, adding, after, numbered, replaces}
use Rattle.record_merge.proofs.AfterLaws.{after-replaces, free_before, free_before_all, place-first}
use Rattle.front_laws.specs.Renaming.{AreUnknown}
use Rattle.front_laws.specs.Repeats.{Finding, GotAllIds, GotIds, chosen, given_by, news_done, shown}
use Rattle.front_laws.proofs.SkipLaws.{both_false}
use Rattle.desk_journal.proofs.StepLaws.{all_weaken}

-- no record has the id
pub record IsNewIn (records : List Record) (g : ℕ) : Type 0 where
  pub some : 0 < g
  pub none : first g records ≡ None

-- ---- ids that were free

free-new : (es : List (ℕ × ContentValue)) (now records : List Record) → ((g : ℕ) → first g now ≡ None → first g records ≡ None) → AreFree es now
    → AllByRecursion (λ (e : ℕ × ContentValue). IsNewIn records e.0) es
free-new [] now records back free = tt
free-new (e ∷ es) now records back free =
    grind (arith, place-first e.0 now free.0.none, free-new es (put_record e.0 e.1 now) records, free_before e.0 e.1 now)

got-new : (a : Action) (x : Finding) (ids : List ℕ) → GotIds a x ids
    → AllByRecursion (λ (e : ℕ × ContentValue). IsNewIn x.records e.0) (numbered ids (chosen a x).adds)
got-new a x ids got =
    let es = replaced_rows (chosen a x).keep (shown x) in
    free-new (numbered ids (chosen a x).adds) (after (replaces es) x.records) x.records
    (λ g none. free_before_all es x.records g (ap (first g) (sym (after-replaces es x.records)) ∙ none)) got

added-new : (Q : ℕ → Type 0) (n : ℕ) (es : List (ℕ × ContentValue)) → AllByRecursion (λ (e : ℕ × ContentValue). Q e.0) es
    → AllByRecursion Q (given_by (take n (adding es)))
added-new Q zero es all = tt
added-new Q (suc n) [] all = tt
added-new Q (suc n) (e ∷ es) all = (all.0, added-new Q n es all.1)

given-new : (Q : ℕ → Type 0) (n : ℕ) (rows es : List (ℕ × ContentValue)) → AllByRecursion (λ (e : ℕ × ContentValue). Q e.0) es
    → AllByRecursion Q (given_by (take n (replaces rows ++ adding es)))
given-new Q n [] es all = added-new Q n es all
given-new Q zero (r ∷ rows) es all = tt
given-new Q (suc n) (r ∷ rows) es all = given-new Q n rows es all

-- those of a session that stopped among its news
pub news-new : (a : Action) (x : Finding) (ids : List ℕ) (n : ℕ) → GotIds a x ids → given_by (news_done a x ids n) ≡ ids
    → AllByRecursion (IsNewIn x.records) ids
news-new a x ids n got all =
    grind (arith, given-new (IsNewIn x.records) n (replaced_rows (chosen a x).keep (shown x)) (numbered ids (chosen a x).adds) (got-new a x ids got))

numbered-new : (Q : ℕ → Type 0) (ids : List ℕ) (cs : List ContentValue) → length ids ≡ length cs
    → AllByRecursion (λ (e : ℕ × ContentValue). Q e.0) (numbered ids cs) → AllByRecursion Q ids
numbered-new Q [] cs same all = tt
numbered-new Q (i ∷ ids) [] same all = absurd (cc)
numbered-new Q (i ∷ ids) (c ∷ cs) same all = (all.0, numbered-new Q ids cs (pred_same (length ids) (length cs) same) all.1)
  where
    pred_same : (m n : ℕ) → suc m ≡ suc n → m ≡ n
    pred_same m n is = omega (arith, is)

-- those of one that got all
pub all-new : {a : Action} {x : Finding} {ids : List ℕ} → GotAllIds a x ids → AllByRecursion (IsNewIn x.records) ids
all-new {a} {x} {ids} got = numbered-new (IsNewIn x.records) ids (chosen a x).adds got.each (got-new a x ids got.got)

-- ---- what wasn't there before the news

back-added : (n : ℕ) (es : List (ℕ × ContentValue)) (records : List Record) (g : ℕ) → first g (after (take n (adding es)) records) ≡ None
    → first g records ≡ None
back-added zero es records g none = none
back-added (suc n) [] records g none = none
back-added (suc n) (e ∷ es) records g none = free_before e.0 e.1 records g (back-added n es (put_record e.0 e.1 records) g none)

back-given : (n : ℕ) (rows es : List (ℕ × ContentValue)) (records : List Record) (g : ℕ)
    → first g (after (take n (replaces rows ++ adding es)) records) ≡ None → first g records ≡ None
back-given n [] es records g none = back-added n es records g none
back-given zero (r ∷ rows) es records g none = none
back-given (suc n) (r ∷ rows) es records g none = free_before r.0 r.1 records g (back-given n rows es (put_record r.0 r.1 records) g none)

pub news-back : (a : Action) (x : Finding) (ids : List ℕ) (n : ℕ) (later : List ℕ)
    → AllByRecursion (IsNewIn (after (news_done a x ids n) x.records)) later → AllByRecursion (IsNewIn x.records) later
news-back a x ids n later all =
    grind (
      arith,
      all_weaken (IsNewIn (after (news_done a x ids n) x.records)) (IsNewIn x.records) later,
      back-given n (replaced_rows (chosen a x).keep (shown x)) (numbered ids (chosen a x).adds) x.records,
    )

-- ---- no base row either

base_none : (g : ℕ) (o : Option Record) → 0 < g → based_under true g o ≡ no_base → is_some o ≡ false
base_none g o some is = grind (arith, common_steps)

pub unknown-of : (x : Finding) (ids : List ℕ) → AllByRecursion (IsNewIn x.records) ids → NoBase (base_at x.base true) ids → AreUnknown x ids
unknown-of x [] new none = tt
unknown-of x (g ∷ ids) new none = (
  both_false (ap is_some new.0.none) (base_none g (first g x.base) new.0.some none.0),
  unknown-of x ids new.1 none.1,
)

pub none-front : (base : ℕ → BaseState) (xs ys : List ℕ) → NoBase base (xs ++ ys) → NoBase base xs
none-front base [] ys none = tt
none-front base (g ∷ xs) ys none = (none.0, none-front base xs ys none.1)

pub none-back : (base : ℕ → BaseState) (xs ys : List ℕ) → NoBase base (xs ++ ys) → NoBase base ys
none-back base [] ys none = none
none-back base (g ∷ xs) ys none = none-back base xs ys none.1

pub unknown-both : (x : Finding) (xs ys : List ℕ) → AreUnknown x xs → AreUnknown x ys → AreUnknown x (xs ++ ys)
unknown-both x [] ys first second = second
unknown-both x (g ∷ xs) ys first second = (first.0, unknown-both x xs ys first.1 second)
