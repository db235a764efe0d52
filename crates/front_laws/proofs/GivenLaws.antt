-- What the handheld has once it was given the replacements and adds, and before anything is purged.
use Rattle.std.proofs.Common.{◌≡◌, ℕ, zero, suc, ◌&&◌, List, [], ◌∷◌, ◌++◌, refl, ap, ◌∙◌, sym, subst, arith, true, false, Bool, Option, Some, None}
use Rattle.std.proofs.Common.{if◌then◌else◌, nat_lt}
use Rattle.std.specs.Option.{option_or}
use Rattle.std.proofs.lemmas.Bool.Decides.{nat_tests}
use Rattle.pdb_values.specs.Contents.{ContentValue}
use Rattle.pdb_values.specs.declared.record.Record.{Record}
use Rattle.conduit_rules.specs.ById.{id_bound, each_below, at}
use Rattle.conduit_rules.specs.Choices.{Choice}
use Rattle.conduit_rules.specs.Plans.{replacement, is_purged, purged_at, replaced_rows, purged_ids}
use Rattle.conduit_rules.specs.States.{SideState, nothing, live, archived, held, held_where}
use Rattle.conduit_rules.proofs.AgreedLaws.{RowsDiffer}
use Rattle.conduit_rules.proofs.ByIdLaws.{each_below-zero, each_below-suc, each_below-same}
use Rattle.conduit_rules.proofs.ContentLaws.{same_content-is}
use Rattle.conduit_rules.proofs.PlanLaws.{replaced_rise, at-each_below}
use Rattle.record_merge.specs.Merging.{row_under, AreBounded}
use Rattle.record_merge.specs.Writes.{clean_up, reset, after, numbered, replaces, adding, purges, giving, clearing, AreFree, GotFreeIds}
use Rattle.record_merge.proofs.AfterLaws.{after-append, after-replaces, after-adding_all, differ-put_all, free_before_all, apart-rising}
use Rattle.record_merge.proofs.HeldLaws.{over, not_over, held-put_all, at-free, at-bounded, apart-free}
use Rattle.record_merge.proofs.PutLaws.{put_all}
use Rattle.record_merge.proofs.ShownLaws.{bounded-none}
use Rattle.front_laws.proofs.ClearLaws.{AreClearing}
use Rattle.record_merge.proofs.BoundLaws.{bounded-put_all, have-free, have-rising}

-- ---- ids stay those of records

module _ (ch : Choice) (h : ℕ → SideState) (given : List ℕ) (records : List Record) where
  pub given-puts : after (giving ch h given) records ≡ put_all (numbered given ch.adds) (put_all (replaced_rows ch.keep h) records)
  given-puts =
      grind (
        arith,
        after-append (replaces (replaced_rows ch.keep h)) (adding (numbered given ch.adds)) records,
        after-replaces (replaced_rows ch.keep h) records,
        after-adding_all (numbered given ch.adds) (put_all (replaced_rows ch.keep h) records),
      )

  pub bounded-given : AreBounded records → GotFreeIds ch h given records → AreBounded (after (giving ch h given) records)
  bounded-given bounded free =
      let es = replaced_rows ch.keep h in
      subst AreBounded (sym given-puts)
      (bounded-put_all (numbered given ch.adds) (put_all es records) (have-free (numbered given ch.adds) (after (replaces es) records) free)
      (bounded-put_all es records (have-rising 0 es (replaced_rise ch.keep h)) bounded))

  pub differ-given : RowsDiffer records → RowsDiffer (after (giving ch h given) records)
  differ-given differ =
      subst RowsDiffer (sym given-puts)
      (differ-put_all (numbered given ch.adds) (put_all (replaced_rows ch.keep h) records) (differ-put_all (replaced_rows ch.keep h) records differ))

-- ---- what each id holds

-- the row under an id is live, and an id without a row holds what it held before
abbrev pub FitsGiven : Option ContentValue → SideState → SideState → Type 0
FitsGiven None h now = now ≡ h
FitsGiven (Some c) h now = now ≡ live c

-- and what is purged is what is live without a row
abbrev pub IsGiven : Bool → Option ContentValue → Option ContentValue → SideState → SideState → Type 0
IsGiven within k row h now = FitsGiven row h now × ((within && is_purged k h) ≡ (within && is_purged row now))

given_one : (b : Bool) (k : Option ContentValue) (h : SideState) (a : Option ContentValue) → (b ≡ false → (h ≡ nothing) × (a ≡ None))
    → ((c : ContentValue) → a ≡ Some c → (h ≡ nothing) × ((if b then replacement k h else None) ≡ None))
    → IsGiven b k (if b then option_or k a else None) h (over a (over (if b then replacement k h else None) h))
given_one false k h a none new = (ap (λ o. over o h) (none refl).1, refl)
given_one true None nothing None none new = (refl, refl)
given_one true None (live x) None none new = (refl, refl)
given_one true None (archived x) None none new = (refl, refl)
given_one true (Some c) nothing None none new = (refl, refl)
given_one true (Some c) (live x) None none new = (grind (arith, same_content-is x c), refl)
given_one true (Some c) (archived x) None none new = (refl, refl)
given_one true None nothing (Some y) none new = (refl, refl)
given_one true None (live x) (Some y) none new = absurd (let h : live x ≡ nothing = (new y refl).0 in cc)
given_one true None (archived x) (Some y) none new = absurd (let h : archived x ≡ nothing = (new y refl).0 in cc)
given_one true (Some c) nothing (Some y) none new = absurd (let h : Some c ≡ None = (new y refl).1 in cc)
given_one true (Some c) (live x) (Some y) none new = absurd (let h : live x ≡ nothing = (new y refl).0 in cc)
given_one true (Some c) (archived x) (Some y) none new = absurd (let h : archived x ≡ nothing = (new y refl).0 in cc)

pub given-is : (ch : Choice) (h : ℕ → SideState) (given : List ℕ) (records : List Record) → AreBounded records → ((i : ℕ) → h i ≡ held records i)
    → GotFreeIds ch h given records → (i : ℕ)
    → IsGiven (nat_lt i id_bound) (ch.keep i) (row_under ch given i) (h i) (held (after (giving ch h given) records) i)
given-is ch h given records bounded shows free i =
    let es = replaced_rows ch.keep h in
    let adds = numbered given ch.adds in
    let free_then : AreFree adds (put_all es records) = subst (AreFree adds) (after-replaces es records) free in
    let put_here = at-each_below (λ j. replacement (ch.keep j) (h j)) id_bound i in
    let held_es : held (put_all es records) i ≡ over (if nat_lt i id_bound then replacement (ch.keep i) (h i) else None) (h i) =
    held-put_all es records i (apart-rising 0 id_bound es (replaced_rise ch.keep h))
    ∙ ap {A = Option ContentValue × SideState} (λ p. over p.0 p.1) (λ k. (put_here k, sym (shows i) k)) in
    let held_all : held (after (giving ch h given) records) i
    ≡ over (at i adds) (over (if nat_lt i id_bound then replacement (ch.keep i) (h i) else None) (h i)) =
    ap (λ rs. held rs i) (given-puts ch h given records) ∙ held-put_all adds (put_all es records) i (apart-free adds (put_all es records) free_then)
    ∙ ap (over (at i adds)) held_es in
    subst (IsGiven (nat_lt i id_bound) (ch.keep i) (row_under ch given i) (h i)) (sym held_all)
    (given_one (nat_lt i id_bound) (ch.keep i) (h i) (at i adds)
    (λ over_bound. (
      shows i ∙ ap held_where (bounded-none records i bounded over_bound),
      no_add adds (put_all es records) free_then over_bound (at i adds) refl,
    ))
    (λ c e. let none = at-free adds (put_all es records) i c free_then e in (
      shows i ∙ ap held_where (free_before_all es records i none),
      not_over (if nat_lt i id_bound then replacement (ch.keep i) (h i) else None) (h i)
          (sym held_es ∙ ap held_where none),
    )))
  where
    no_add : (adds : List (ℕ × ContentValue)) (now : List Record) → AreFree adds now → nat_lt i id_bound ≡ false → (o : Option ContentValue)
        → at i adds ≡ o → o ≡ None
    no_add adds now free over_bound None e = refl
    no_add adds now free over_bound (Some c) e = absurd (let h : true ≡ false = sym (at-bounded adds now i c free e).1 ∙ over_bound in cc)

-- ---- what is purged

purged_by : (i : ℕ) (b : Bool) (k row : Option ContentValue) (h now : SideState) → b ≡ true → IsGiven b k row h now → purged_at k h i ≡ purged_at row now i
purged_by i b k row h now within is = grind arith

pub purges-given : (ch : Choice) (h : ℕ → SideState) (given : List ℕ) (records : List Record) → AreBounded records → ((i : ℕ) → h i ≡ held records i)
    → GotFreeIds ch h given records → purged_ids ch.keep h ≡ purged_ids (row_under ch given) (held (after (giving ch h given) records))
purges-given ch h given records bounded shows free =
    each_below-same (λ i. purged_at (ch.keep i) (h i) i) (λ i. purged_at (row_under ch given i) (held (after (giving ch h given) records) i) i) id_bound
    (λ i l. purged_by i (nat_lt i id_bound) (ch.keep i) (row_under ch given i) (h i) (held (after (giving ch h given) records) i)
    (grind (arith, nat_tests, l)) (given-is ch h given records bounded shows free i))

-- no row stands under the id of what is purged
abbrev NoRows : (ℕ → Option ContentValue) → List ℕ → Type 0
NoRows row [] = Unit {0}
NoRows row (i ∷ is) = (row i ≡ None) × NoRows row is

none-append : (row : ℕ → Option ContentValue) (xs ys : List ℕ) → NoRows row xs → NoRows row ys → NoRows row (xs ++ ys)
none-append row [] ys none more = more
none-append row (x ∷ xs) ys none more = (none.0, none-append row xs ys none.1 more)

none_one : (row : ℕ → Option ContentValue) (i : ℕ) (k : Option ContentValue) (now : SideState) → row i ≡ k → NoRows row (purged_at k now i)
none_one row i k now is = grind arith

none_below : (row : ℕ → Option ContentValue) (now : ℕ → SideState) (n : ℕ) → NoRows row (each_below (λ i. purged_at (row i) (now i) i) n)
none_below row now zero = subst (NoRows row) (sym (each_below-zero (λ i. purged_at (row i) (now i) i))) tt
none_below row now (suc n) =
    subst (NoRows row) (sym (each_below-suc (λ i. purged_at (row i) (now i) i) n))
    (none-append row (each_below (λ i. purged_at (row i) (now i) i) n) (purged_at (row n) (now n) n) (none_below row now n)
    (none_one row n (row n) (now n) refl))

clearing_of : (row : ℕ → Option ContentValue) (is : List ℕ) → NoRows row is → AreClearing row (purges is ++ clean_up ∷ reset ∷ [])
clearing_of row [] none = tt
clearing_of row (i ∷ is) none = (none.0, clearing_of row is none.1)

-- the purges are of ids without a row
pub clearing-given : (ch : Choice) (h : ℕ → SideState) (given : List ℕ) (records : List Record) → AreBounded records → ((i : ℕ) → h i ≡ held records i)
    → GotFreeIds ch h given records → AreClearing (row_under ch given) (clearing ch h)
clearing-given ch h given records bounded shows free =
    grind (
      arith,
      purges-given ch h given records bounded shows free,
      clearing_of (row_under ch given) (purged_ids (row_under ch given) (held (after (giving ch h given) records)))
          (none_below (row_under ch given) (held (after (giving ch h given) records)) id_bound),
    )
