-- How far a call goes through the steps of a commit, and what each step has.
use Rattle.std.proofs.Common.{◌≡◌, ◌⊎◌, inl, inr, List, [], ◌∷◌, ◌++◌, Option, None, Some, Result, Ok, Err, refl, sym, ap, subst, ◌∙◌, append_assoc}
use Rattle.std.specs.Prelude.{IfSome, OnErr, OnOk}
use Rattle.std.specs.List.{AllByRecursion}
use Rattle.std.specs.Option.{option_map}
use Rattle.std.proofs.lemmas.List.{append-nil}
use Rattle.hs_folders.specs.FileMaps.{FileMap}
use Rattle.hs_folders.specs.Moments.{EachMomentSince, Moments}
use Rattle.desk_journal.specs.Entries.{EntryValue}
use Rattle.desk_journal.specs.Overlays.{put_all}
use Rattle.desk_journal.specs.Steps.{GoesThrough, GoesThroughAll, by_journal, journal_steps, last_told, replacements, with_entry, with_journal, without_journal}
use Rattle.desk_journal.proofs.OverlayLaws.{put_one_more}
use Rattle.hs_folders.proofs.MomentLaws.{joined, unmoved}

-- ---- lists

-- what holds of all of two lists holds of all of both
pub all-append : {X : Type 0} (P : X → Type 0) (a b : List X) → AllByRecursion P a → AllByRecursion P b → AllByRecursion P (a ++ b)
all-append P [] b all more = more
all-append P (x ∷ a) b all more = (all.0, all-append P a b all.1 more)

all_front : {X : Type 0} (P : X → Type 0) (a b : List X) → AllByRecursion P (a ++ b) → AllByRecursion P a
all_front P [] b all = tt
all_front P (x ∷ a) b all = (all.0, all_front P a b all.1)

pub all_weaken : {X : Type 0} (P Q : X → Type 0) (xs : List X) → ((x : X) → P x → Q x) → AllByRecursion P xs → AllByRecursion Q xs
all_weaken P Q [] leads all = tt
all_weaken P Q (x ∷ xs) leads all = (leads x all.0, all_weaken P Q xs leads all.1)

last_all : (P : Option FileMap → Type 0) (told : Option FileMap) (steps : List (Option FileMap)) → P told → AllByRecursion P steps → P (last_told told steps)
last_all P told [] here all = here
last_all P told (next ∷ steps) here all = last_all P next steps all.0 all.1

pub last_told-append : (told : Option FileMap) (a b : List (Option FileMap)) → last_told told (a ++ b) ≡ last_told (last_told told a) b
last_told-append told [] b = refl
last_told-append told (next ∷ a) b = last_told-append next a b

-- ---- going through steps

-- no step was taken
pub through_none : (steps : List (Option FileMap)) {before after : Option FileMap} {old new : Moments} → after ≡ before → new ≡ old
    → GoesThrough steps before after old new
through_none steps {before} {after} {old} {new} same still = record {
  passed = [];
  left = steps;
  are = refl;
  moments = still ∙ unmoved old;
  stops = same;
}

-- all of them were
pub through_all : {steps : List (Option FileMap)} {before after : Option FileMap} {old new : Moments} → after ≡ last_told before steps
    → GoesThroughAll steps old new → GoesThrough steps before after old new
through_all {steps} is all = record {
  passed = steps;
  left = [];
  are = sym (append-nil steps);
  moments = all;
  stops = is;
}

-- more steps were to come
pub through_more : {steps : List (Option FileMap)} (more : List (Option FileMap)) {before after : Option FileMap} {old new : Moments}
    → GoesThrough steps before after old new → GoesThrough (steps ++ more) before after old new
through_more more it = record {
  passed = it.passed;
  left = it.left ++ more;
  are = ap (λ (s : List (Option FileMap)). s ++ more) it.are ∙ append_assoc it.passed it.left more;
  moments = it.moments;
  stops = it.stops;
}

-- steps that come behind others
pub through_then : (steps : List (Option FileMap)) {more : List (Option FileMap)} (before mid : Option FileMap) {after : Option FileMap} {old half new : Moments}
    → mid ≡ last_told before steps → GoesThroughAll steps old half → GoesThrough more mid after half new → GoesThrough (steps ++ more) before after old new
through_then steps {more} before mid {after} {old} {half} {new} is all it = record {
  passed = steps ++ it.passed;
  left = it.left;
  are = ap (λ (s : List (Option FileMap)). steps ++ s) it.are ∙ sym (append_assoc steps it.passed it.left);
  moments = it.moments ∙ (ap (option_map (λ moments. moments ++ it.passed)) all ∙ joined steps it.passed old);
  stops = it.stops ∙ (ap (λ (t : Option FileMap). last_told t it.passed) is ∙ sym (last_told-append before steps it.passed));
}

-- one step was taken, or refused
pub through_one : {A E : Type 0} (answer : Result A E) (next : Option FileMap) {before after : Option FileMap} {old new : Moments} → OnOk answer (after ≡ next)
    → OnOk answer (GoesThroughAll (after ∷ []) old new) → OnErr answer (after ≡ before) → OnErr answer (new ≡ old)
    → GoesThrough (next ∷ []) before after old new
through_one (Ok x) next {before} {after} {old} {new} is one stays still =
    through_all is (subst (λ (t : Option FileMap). GoesThroughAll (t ∷ []) old new) is one)
through_one (Err e) next is one stays still = through_none (next ∷ []) stays still

pub all_then : (steps more : List (Option FileMap)) (old half new : Moments) → GoesThroughAll steps old half → GoesThroughAll more half new
    → GoesThroughAll (steps ++ more) old new
all_then steps more old half new all it = it ∙ (ap (option_map (λ moments. moments ++ more)) all ∙ joined steps more old)

pub all_none : {old new : Moments} → new ≡ old → GoesThroughAll [] old new
all_none {old} still = still ∙ unmoved old

-- what each step has, each moment has
pub through_each : (P : Option FileMap → Type 0) {steps : List (Option FileMap)} {before after : Option FileMap} {old new : Moments}
    → AllByRecursion P steps → GoesThrough steps before after old new → EachMomentSince P old new
through_each P all it = record {
  added = it.passed;
  is = it.moments;
  each = all_front P it.passed it.left (subst (AllByRecursion P) it.are all);
}

-- and so has what is told at the end, unless nothing changed
pub through_last : (P : Option FileMap → Type 0) {steps : List (Option FileMap)} {before after : Option FileMap} {old new : Moments} → P before
    → AllByRecursion P steps → GoesThrough steps before after old new → P after
through_last P {steps} {before} here all it =
    subst P (sym it.stops) (last_all P before it.passed here (all_front P it.passed it.left (subst (AllByRecursion P) it.are all)))

pub through_either : (P : Option FileMap → Type 0) {steps : List (Option FileMap)} {before after : Option FileMap} {old new : Moments}
    → AllByRecursion P steps → GoesThrough steps before after old new → (after ≡ before) ⊎ P after
through_either P {steps} {before} {after} all it =
    by it.passed it.stops (all_front P it.passed it.left (subst (AllByRecursion P) it.are all))
  where
    by : (passed : List (Option FileMap)) → after ≡ last_told before passed → AllByRecursion P passed → (after ≡ before) ⊎ P after
    by [] is each = inl is
    by (next ∷ passed) is each = inr (subst P (sym is) (last_all P next passed each.0 each.1))

-- ---- replacing files

pub replacements-append : (a b : List EntryValue) (told : Option FileMap)
    → replacements (a ++ b) told ≡ replacements a told ++ replacements b (option_map (put_all a) told)
replacements-append [] b None = refl
replacements-append [] b (Some held) = refl
replacements-append (entry ∷ a) b None = ap (λ (s : List (Option FileMap)). None ∷ s) (replacements-append a b None)
replacements-append (entry ∷ a) b (Some held) =
    ap (λ (s : List (Option FileMap)). with_entry entry (Some held) ∷ s) (replacements-append a b (with_entry entry (Some held)))

pub replacements-push : (entries : List EntryValue) (entry : EntryValue) (told : Option FileMap)
    → replacements (entries ++ entry ∷ []) told ≡ replacements entries told ++ option_map (put_all (entries ++ entry ∷ [])) told ∷ []
replacements-push entries entry told =
    replacements-append entries (entry ∷ []) told ∙ ap (λ (t : Option FileMap). replacements entries told ++ t ∷ []) (sym (put_one_more entries entry told))

pub none_put : (told : Option FileMap) → told ≡ option_map (put_all []) told
none_put None = refl
none_put (Some held) = refl

pub last_told-replacements : (entries : List EntryValue) (told : Option FileMap) → last_told told (replacements entries told) ≡ option_map (put_all entries) told
last_told-replacements [] None = refl
last_told-replacements [] (Some held) = refl
last_told-replacements (entry ∷ entries) None = last_told-replacements entries None
last_told-replacements (entry ∷ entries) (Some held) = last_told-replacements entries (with_entry entry (Some held))

-- the journal is removed behind them
pub carried_all : (entries : List EntryValue) (told mid : Option FileMap) (old half new : Moments) → mid ≡ option_map (put_all entries) told
    → GoesThroughAll (replacements entries told) old half → IfSome mid (λ _. GoesThroughAll (without_journal mid ∷ []) half new)
    → IfSome told (λ held. GoesThroughAll (journal_steps entries (Some held)) old new)
carried_all entries None mid old half new put all removed = tt
carried_all entries (Some held) mid old half new put all removed =
    all_then (replacements entries (Some held)) (without_journal (option_map (put_all entries) (Some held)) ∷ []) old half new all
    (subst (λ (t : Option FileMap). IfSome t (λ _. GoesThroughAll (without_journal t ∷ []) half new)) put removed)

-- and written in front of them
pub journaled_all : (entries : List EntryValue) (told mid : Option FileMap) (old half new : Moments) → mid ≡ with_journal entries told
    → GoesThroughAll (with_journal entries told ∷ []) old half → IfSome mid (λ held. GoesThroughAll (journal_steps entries (Some held)) half new)
    → IfSome told (λ held. GoesThroughAll (by_journal entries (Some held)) old new)
journaled_all entries None mid old half new put all carried = tt
journaled_all entries (Some held) mid old half new put all carried =
    all_then (with_journal entries (Some held) ∷ []) (journal_steps entries (with_journal entries (Some held))) old half new all
    (subst (λ (t : Option FileMap). IfSome t (λ h. GoesThroughAll (journal_steps entries (Some h)) half new)) put carried)

-- what holds once the files of each first part of the entries are replaced
pub each_replacement : (P : Option FileMap → Type 0) (front entries : List EntryValue) (told : Option FileMap)
    → ((a b : List EntryValue) → front ++ entries ≡ a ++ b → P (option_map (put_all a) told))
    → AllByRecursion P (replacements entries (option_map (put_all front) told))
each_replacement P front [] told each = tt
each_replacement P front (entry ∷ entries) told each =
    let more : option_map (put_all (front ++ entry ∷ [])) told ≡ with_entry entry (option_map (put_all front) told) = put_one_more front entry told in
    let split : front ++ entry ∷ entries ≡ (front ++ entry ∷ []) ++ entries = sym (append_assoc front (entry ∷ []) entries) in (
      subst P more (each (front ++ entry ∷ []) entries split),
      subst (λ (t : Option FileMap). AllByRecursion P (replacements entries t)) more
          (each_replacement P (front ++ entry ∷ []) entries told (λ a b is. each a b (split ∙ is))),
    )
