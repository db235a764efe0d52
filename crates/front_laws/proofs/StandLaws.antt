-- Where a content stands: among lists by id, among records and rows, and in an archive.
use Rattle.std.proofs.lemmas.Grind.{common_steps}
use Rattle.std.proofs.lemmas.Bool.{cases_lt, or_cases, or_left, or_right}
use Rattle.std.proofs.lemmas.Bool.Decides.{nat_tests}
use Rattle.std.proofs.lemmas.List.Folds.{list_any-append}
use Rattle.std.proofs.Common.{◌≡◌, ◌≢◌, ◌⊎◌, ⊎_elim, inl, inr, ℕ, zero, suc, ◌<◌, ◌≤◌, ◌==◌, ◌||◌, List, [], ◌∷◌, refl, ap, ◌∙◌, sym, arith, true, false, Bool}
use Rattle.std.proofs.Common.{Option, Some, None, option_to_list, if◌then◌else◌}
use Rattle.std.specs.List.{list_any}
use Rattle.pdb_values.specs.Contents.{ContentValue}
use Rattle.pdb_values.specs.declared.record.Record.{Record}
use Rattle.conduit_rules.specs.ById.{each_below, put}
use Rattle.conduit_rules.specs.Choices.{contents_of}
use Rattle.conduit_rules.specs.Contents.{count_of, same_content}
use Rattle.conduit_rules.specs.Fates.{stands}
use Rattle.conduit_rules.specs.News.{live_contents, loose}
use Rattle.conduit_rules.specs.States.{SideState, nothing, live, archived, live_of, first, held, held_where, record_held}
use Rattle.conduit_rules.proofs.AgreedLaws.{RowsDiffer}
use Rattle.conduit_rules.proofs.ByIdLaws.{each_below-suc, each_below-zero}
use Rattle.conduit_rules.proofs.ContentLaws.{same_content-is, same_content-same}
use Rattle.record_merge.specs.Merging.{is_archived, one_copy_behind}
use Rattle.record_merge.proofs.ArchiveLaws.{copies-stand}
use Rattle.front_laws.specs.Lives.{is_live_in}

-- ---- lists by id

module _ {A : Type 0} (p : A → Bool) where
  any-suc : (f : ℕ → List A) (n : ℕ) → list_any p (each_below f (suc n)) ≡ (list_any p (each_below f n) || list_any p (f n))
  any-suc f n = ap (list_any p) (each_below-suc f n) ∙ list_any-append p (each_below f n) (f n)

  -- what passes a test under an id
  pub any-below : (f : ℕ → List A) (i n : ℕ) → i < n → list_any p (f i) ≡ true → list_any p (each_below f n) ≡ true
  any-below f i zero below is = absurd (omega (arith, below))
  any-below f i (suc n) below is =
      any-suc f n ∙ ⊎_elim (λ (less : i < n). or_left (list_any p (each_below f n)) (list_any p (f n)) (any-below f i n less is))
      (λ (past : n ≤ i).
      let same : i ≡ n = omega (arith, below, past) in
      or_right (list_any p (each_below f n)) (list_any p (f n)) (ap (λ j. list_any p (f j)) (sym same) ∙ is)) (cases_lt i n)

  pub record PassesUnder (f : ℕ → List A) (n i : ℕ) : Type 0 where
    pub below : i < n
    pub passes : list_any p (f i) ≡ true

  -- so it does under some id
  pub some-below : (f : ℕ → List A) (n : ℕ) → list_any p (each_below f n) ≡ true → (i : ℕ) × PassesUnder f n i
  some-below f zero is = absurd (let no : true ≡ false = sym is ∙ ap (list_any p) (each_below-zero f) in cc)
  some-below f (suc n) is =
      ⊎_elim (λ (old : list_any p (each_below f n) ≡ true).
      let found = some-below f n old in
      (found.0, record { below = omega (arith, found.1.below); passes = found.1.passes }))
      (λ (last : list_any p (f n) ≡ true). (n, record { below = omega arith; passes = last }))
      (or_cases (list_any p (each_below f n)) (list_any p (f n)) (sym (any-suc f n) ∙ is))

-- ---- one content, and counts

pub stands-some : (c : ContentValue) (o : Option ContentValue) → stands c (option_to_list o) ≡ true → o ≡ Some c
stands-some c None is = absurd (cc)
stands-some c (Some d) is = grind (arith, same_content-is d c)

pub some-stands : (c : ContentValue) (o : Option ContentValue) → o ≡ Some c → stands c (option_to_list o) ≡ true
some-stands c o is = grind (arith, same_content-same c)

pub stands-counted : (c : ContentValue) (xs : List ContentValue) → stands c xs ≡ true → count_of c xs ≢ 0
stands-counted c [] is = absurd (cc)
stands-counted c (x ∷ xs) is = grind (arith, common_steps, stands-counted c xs)

pub counted-stands : (c : ContentValue) (xs : List ContentValue) → count_of c xs ≢ 0 → stands c xs ≡ true
counted-stands c [] some = absurd (omega (arith, some))
counted-stands c (x ∷ xs) some = grind (arith, common_steps, counted-stands c xs)

-- ---- records

live_one : (c : ContentValue) (h : SideState) → live_of h ≡ Some c → h ≡ live c
live_one c nothing is = absurd (cc)
live_one c (live d) is = cc
live_one c (archived d) is = absurd (cc)

live-cons : (c : ContentValue) (r : Record) (records : List Record)
    → is_live_in c (r ∷ records) ≡ (stands c (option_to_list (live_of (record_held r))) || is_live_in c records)
live-cons c r records = list_any-append (λ x. same_content x c) (option_to_list (live_of (record_held r))) (live_contents records)

-- what is held live under an id is live
pub held-live_in : (c : ContentValue) (records : List Record) (i : ℕ) → held records i ≡ live c → is_live_in c records ≡ true
held-live_in c [] i is = absurd (cc)
held-live_in c (r ∷ records) i is = live-cons c r records ∙ by (r.id == i) is (held-live_in c records i)
  where
    by : (b : Bool) → held_where (if b then Some r else first i records) ≡ live c → (held records i ≡ live c → is_live_in c records ≡ true)
        → (stands c (option_to_list (live_of (record_held r))) || is_live_in c records) ≡ true
    by true is later =
        or_left (stands c (option_to_list (live_of (record_held r)))) (is_live_in c records)
        (some-stands c (live_of (record_held r)) (ap live_of is))
    by false is later = or_right (stands c (option_to_list (live_of (record_held r)))) (is_live_in c records) (later is)

-- among records with ids of their own each live content is held under an id
pub live_in-held : (c : ContentValue) (records : List Record) → RowsDiffer records → is_live_in c records ≡ true → (i : ℕ) × (held records i ≡ live c)
live_in-held c [] differ is = absurd (cc)
live_in-held c (r ∷ records) differ is =
    ⊎_elim (λ (here : stands c (option_to_list (live_of (record_held r))) ≡ true).
    (r.id, own r (live_one c (record_held r) (stands-some c (live_of (record_held r)) here))))
    (λ (later : is_live_in c records ≡ true). let found = live_in-held c records differ.1 later in (found.0, past found.0 found.1))
    (or_cases (stands c (option_to_list (live_of (record_held r)))) (is_live_in c records) (sym (live-cons c r records) ∙ is))
  where
    own : (r : Record) → record_held r ≡ live c → held (r ∷ records) r.id ≡ live c
    own r is = grind (arith, nat_tests, is)

    past : (i : ℕ) → held records i ≡ live c → held (r ∷ records) i ≡ live c
    past i is = grind (arith, nat_tests, is, differ.0)

-- ---- rows with and without a base row

pub record IsUnder (c : ContentValue) (counts : ℕ → Bool) (rows : List Record) (i : ℕ) : Type 0 where
  pub based : counts i ≡ true
  pub live : held rows i ≡ live c

-- a live row counts by itself, or it is the row of an id with a base row
pub loose-or : (c : ContentValue) (based : ℕ → Bool) (rows : List Record) → is_live_in c rows ≡ true
    → (is_live_in c (loose based rows) ≡ true) ⊎ ((i : ℕ) × IsUnder c based rows i)
loose-or c based [] is = absurd (cc)
loose-or c based (r ∷ rows) is =
    by (based r.id) refl (or_cases (stands c (option_to_list (live_of (record_held r)))) (is_live_in c rows) (sym (live-cons c r rows) ∙ is))
    (loose-or c (put based r.id false) rows) (loose-or c based rows)
  where
    own : (r : Record) → record_held r ≡ live c → held (r ∷ rows) r.id ≡ live c
    own r is = grind (arith, nat_tests, is)

    past : (i : ℕ) → IsUnder c (put based r.id false) rows i → IsUnder c based (r ∷ rows) i
    past i is = let on = is.based in let there = is.live in record { based = grind (arith, nat_tests, on); live = grind (arith, nat_tests, on, there) }

    other : based r.id ≡ false → (i : ℕ) → IsUnder c based rows i → IsUnder c based (r ∷ rows) i
    other off i is = let on = is.based in let there = is.live in record { based = on; live = grind (arith, nat_tests, off, on, there) }

    in_loose : (is_live_in c (loose based rows) ≡ true) → is_live_in c (r ∷ loose based rows) ≡ true
    in_loose is = live-cons c r (loose based rows) ∙ or_right (stands c (option_to_list (live_of (record_held r)))) (is_live_in c (loose based rows)) is

    by : (b : Bool) → based r.id ≡ b → (stands c (option_to_list (live_of (record_held r))) ≡ true) ⊎ (is_live_in c rows ≡ true)
        → (is_live_in c rows ≡ true → (is_live_in c (loose (put based r.id false) rows) ≡ true) ⊎ ((i : ℕ) × IsUnder c (put based r.id false) rows i))
        → (is_live_in c rows ≡ true → (is_live_in c (loose based rows) ≡ true) ⊎ ((i : ℕ) × IsUnder c based rows i))
        → (is_live_in c (if b then loose (put based r.id false) rows else r ∷ loose based rows) ≡ true) ⊎ ((i : ℕ) × IsUnder c based (r ∷ rows) i)
    by true on (inl here) less same =
        inr (r.id, record { based = on; live = own r (live_one c (record_held r) (stands-some c (live_of (record_held r)) here)) })
    by true on (inr later) less same =
        ⊎_elim inl (λ (found : (i : ℕ) × IsUnder c (put based r.id false) rows i). inr (found.0, past found.0 found.1)) (less later)
    by false off (inl here) less same =
        inl (live-cons c r (loose based rows) ∙ or_left (stands c (option_to_list (live_of (record_held r)))) (is_live_in c (loose based rows)) here)
    by false off (inr later) less same =
        ⊎_elim (λ (still : is_live_in c (loose based rows) ≡ true). inl (in_loose still))
        (λ (found : (i : ℕ) × IsUnder c based rows i). inr (found.0, other off found.0 found.1)) (same later)

-- ---- archives

-- an entry has this content
abbrev pub has_content : ContentValue → ℕ × ContentValue → Bool
has_content c e = same_content e.1 c

pub contents-any : (c : ContentValue) (es : List (ℕ × ContentValue)) → stands c (contents_of es) ≡ list_any (has_content c) es
contents-any c [] = refl
contents-any c (e ∷ es) = ap (λ b. same_content e.1 c || b) (contents-any c es)

entry-any : (c : ContentValue) (es : List (ℕ × ContentValue)) → list_any (has_content c) es ≡ true → (i : ℕ) × (is_archived (i, c) es ≡ true)
entry-any c [] is = absurd (cc)
entry-any c (e ∷ es) is =
    ⊎_elim (λ (here : same_content e.1 c ≡ true). (e.0, grind (arith, nat_tests, here)))
    (λ (later : list_any (has_content c) es ≡ true). let found = entry-any c es later in (found.0, grind (arith, found.1)))
    (or_cases (same_content e.1 c) (list_any (has_content c) es) is)

any-entry : (c : ContentValue) (i : ℕ) (es : List (ℕ × ContentValue)) → is_archived (i, c) es ≡ true → list_any (has_content c) es ≡ true
any-entry c i [] is = absurd (cc)
any-entry c i (e ∷ es) is = grind (arith, is, any-entry c i es)

-- one copy of each entry is left
pub copies-have : (c : ContentValue) (es : List (ℕ × ContentValue)) → stands c (contents_of es) ≡ true → stands c (contents_of (one_copy_behind [] es)) ≡ true
copies-have c es is =
    let found = entry-any c es (sym (contents-any c es) ∙ is) in
    contents-any c (one_copy_behind [] es) ∙ any-entry c found.0 (one_copy_behind [] es) (copies-stand (found.0, c) [] es ∙ found.1)
