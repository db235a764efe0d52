-- Once a plan is carried out, the handheld's live records are the desktop's rows.
use Rattle.std.proofs.Common.{◌≡◌, ℕ, ◌<◌, ◌≤◌, ◌^◌, ◌&&◌, List, [], ◌∷◌, ◌++◌, refl, ap, ◌∙◌, sym, subst, arith, true, false, Bool, Option, Some, None, map}
use Rattle.std.proofs.Common.{filter, not, ◌==◌, if◌then◌else◌, is_none, nat_lt}
use Rattle.std.specs.Option.{option_or}
use Rattle.std.proofs.lemmas.Bool.Decides.{nat_tests}
use Rattle.pdb_values.specs.Contents.{ContentValue}
use Rattle.pdb_values.specs.Records.{is_live}
use Rattle.pdb_values.specs.declared.record.Record.{Record}
use Rattle.palm_device.specs.Records.{put_record, clean}
use Rattle.conduit_rules.specs.ById.{id_bound, each_id, with_id, at}
use Rattle.conduit_rules.specs.States.{SideState, nothing, live, archived, first, held, held_where, record_held}
use Rattle.conduit_rules.specs.Choices.{Choice}
use Rattle.conduit_rules.specs.Plans.{replacement, is_purged, replaced_rows, purged_ids}
use Rattle.conduit_rules.proofs.BoundLaws.{live_or}
use Rattle.conduit_rules.proofs.ByIdLaws.{id_bound-is}
use Rattle.conduit_rules.proofs.ContentLaws.{same_content-is}
use Rattle.conduit_rules.proofs.PlanLaws.{replaced_rise, at-each_below, has, has-each_below}
use Rattle.conduit_rules.proofs.AgreedLaws.{RowsDiffer}
use Rattle.record_merge.specs.Writes.{after, numbered, replaces, adding, giving, clearing, AreFree}
use Rattle.record_merge.specs.Merging.{row_at, row_under, settled_record, merged_rows, AreBounded}
use Rattle.record_merge.proofs.PutLaws.{Apart, put_all, first-put, held-put}
use Rattle.record_merge.proofs.AfterLaws.{first-filter_none, differ-filter, finished, after-append, after-replaces, after-adding_all, after-clearing}
use Rattle.record_merge.proofs.AfterLaws.{differ-put_all, place-first, free_before, free_before_all, apart-rising}
use Rattle.record_merge.proofs.ShownLaws.{bounded-none}

abbrev pub only_live : SideState → SideState
only_live nothing = nothing
only_live (live c) = live c
only_live (archived c) = nothing

abbrev pub over : Option ContentValue → SideState → SideState
over None h = h
over (Some c) h = live c

-- many puts at once
pub held-put_all : (es : List (ℕ × ContentValue)) (records : List Record) (j : ℕ) → Apart es
    → held (put_all es records) j ≡ over (at j es) (held records j)
held-put_all [] records j apart = refl
held-put_all (e ∷ es) records j apart = grind (arith, held-put_all es (put_record e.0 e.1 records) j apart.1, held-put e.0 e.1 records j)

-- ---- purges, clean up and reset

held-purged : (is : List ℕ) (records : List Record) (j : ℕ)
    → held (filter (λ r. not (has r.id is)) records) j ≡ (if has j is then nothing else held records j)
held-purged is [] j = grind arith
held-purged is (r ∷ records) j = grind (arith, nat_tests, held-purged is records j)

only_live_record : (r : Record) → only_live (record_held r) ≡ (if is_live r then live r.content else nothing)
only_live_record r = grind arith

-- where the deleted records go, what is held under an id is what was held there, if it lives
pub held-cleaned : (records : List Record) (j : ℕ) → RowsDiffer records → held (filter is_live records) j ≡ only_live (held records j)
held-cleaned [] j differ = refl
held-cleaned (r ∷ records) j differ =
    grind (arith, nat_tests, held-cleaned records j differ.1, differ.0, only_live_record r, first-filter_none is_live r.id records differ.0)

pub held-clean : (records : List Record) (j : ℕ) → held (map clean records) j ≡ held records j
held-clean [] j = refl
held-clean (r ∷ records) j = grind (arith, held-clean records j)

held-finished : (is : List ℕ) (records : List Record) (j : ℕ) → RowsDiffer records
    → held (finished is records) j ≡ only_live (if has j is then nothing else held records j)
held-finished is records j differ =
    held-clean (filter is_live (filter (λ r. not (has r.id is)) records)) j
    ∙ held-cleaned (filter (λ r. not (has r.id is)) records) j (differ-filter (λ r. not (has r.id is)) records differ)
    ∙ ap only_live (held-purged is records j)

-- ---- the adds

-- an add's id was free before the adds
pub at-free : (es : List (ℕ × ContentValue)) (now : List Record) (i : ℕ) (a : ContentValue) → AreFree es now → at i es ≡ Some a → first i now ≡ None
at-free [] now i a free e = absurd (cc)
at-free (x ∷ es) now i a free e =
    grind (
      arith,
      nat_tests,
      e,
      place-first x.0 now free.0.none,
      λ (l : at i es ≡ Some a). free_before x.0 x.1 now i (at-free es (put_record x.0 x.1 now) i a free.1 l),
    )

-- and is one of a record, and not 0
pub at-bounded : (es : List (ℕ × ContentValue)) (now : List Record) (i : ℕ) (a : ContentValue) → AreFree es now → at i es ≡ Some a
    → (0 < i) × (nat_lt i id_bound ≡ true)
at-bounded [] now i a free e = absurd (cc)
at-bounded (x ∷ es) now i a free e = by (x.0 == i) refl (at-bounded es (put_record x.0 x.1 now) i a free.1)
  where
    by : (b : Bool) → (x.0 == i) ≡ b → (at i es ≡ Some a → (0 < i) × (nat_lt i id_bound ≡ true)) → (0 < i) × (nat_lt i id_bound ≡ true)
    by true is later = let same : x.0 ≡ i =
        grind (arith, nat_tests, is) in (
          subst (λ k. 0 < k) same free.0.some,
          ap (λ n. nat_lt i n) id_bound-is
              ∙ subst (λ k. nat_lt k (2 ^ 24) ≡ true) same (below x.0 free.0.bound),
        )
      where
        below : (n : ℕ) → n ≤ 16777215 → nat_lt n (2 ^ 24) ≡ true
        below n l = grind (arith, nat_tests, l)
    by false is later = later (grind (arith, is, e))

-- adds differ in their ids
pub apart-free : (es : List (ℕ × ContentValue)) (now : List Record) → AreFree es now → Apart es
apart-free [] now free = tt
apart-free (x ∷ es) now free = (by (at x.0 es) refl, apart-free es (put_record x.0 x.1 now) free.1)
  where
    by : (o : Option ContentValue) → at x.0 es ≡ o → o ≡ None
    by None is = refl
    by (Some a) is = absurd (let h = at-free es (put_record x.0 x.1 now) x.0 a free.1 is in let g : is_none (first x.0 (put_record x.0 x.1 now))
        ≡ false = ap is_none (first-put x.0 x.1 now x.0) ∙ grind (arith, nat_tests) in let f : true ≡ false = sym (ap is_none h) ∙ g in cc)

-- ---- both sides

merged_one : (b : Bool) (k : Option ContentValue) (h : SideState) (a : Option ContentValue) → (b ≡ false → (h ≡ nothing) × (a ≡ None))
    → ((c : ContentValue) → a ≡ Some c → (h ≡ nothing) × ((if b then replacement k h else None) ≡ None))
    → only_live (if b && is_purged k h then nothing else over a (over (if b then replacement k h else None) h)) ≡ live_or (if b then option_or k a else None)
merged_one false k h a none new = grind (arith, (none refl).0, (none refl).1)
merged_one true None nothing None none new = refl
merged_one true None (live x) None none new = refl
merged_one true None (archived x) None none new = refl
merged_one true (Some c) nothing None none new = refl
merged_one true (Some c) (live x) None none new = grind (arith, same_content-is x c)
merged_one true (Some c) (archived x) None none new = refl
merged_one true None nothing (Some y) none new = refl
merged_one true None (live x) (Some y) none new = absurd (let h : live x ≡ nothing = (new y refl).0 in cc)
merged_one true None (archived x) (Some y) none new = absurd (let h : archived x ≡ nothing = (new y refl).0 in cc)
merged_one true (Some c) nothing (Some y) none new = absurd (let h : Some c ≡ None = (new y refl).1 in cc)
merged_one true (Some c) (live x) (Some y) none new = absurd (let h : live x ≡ nothing = (new y refl).0 in cc)
merged_one true (Some c) (archived x) (Some y) none new = absurd (let h : archived x ≡ nothing = (new y refl).0 in cc)

pub not_over : (o : Option ContentValue) (h : SideState) → over o h ≡ nothing → o ≡ None
not_over o h e = grind arith

-- the handheld holds the rows, where the view shows what it held
pub held-merged : (ch : Choice) (h : ℕ → SideState) (given : List ℕ) (records : List Record) → RowsDiffer records → AreBounded records
    → ((i : ℕ) → h i ≡ held records i) → AreFree (numbered given ch.adds) (after (replaces (replaced_rows ch.keep h)) records) → (i : ℕ)
    → held (after (giving ch h given ++ clearing ch h) records) i ≡ live_or (row_under ch given i)
held-merged ch h given records differ bounded shows free i =
    let es = replaced_rows ch.keep h in
    let adds = numbered given ch.adds in
    let is = purged_ids ch.keep h in
    let free_then : AreFree adds (put_all es records) = subst (AreFree adds) (after-replaces es records) free in
    let apart = apart-rising 0 id_bound es (replaced_rise ch.keep h) in
    let at_es = at-each_below (λ j. replacement (ch.keep j) (h j)) id_bound i in
    let held_es : held (put_all es records) i ≡ over (if nat_lt i id_bound then replacement (ch.keep i) (h i) else None) (h i) =
    held-put_all es records i apart ∙ ap {A = Option ContentValue × SideState} (λ p. over p.0 p.1) (λ k. (at_es k, sym (shows i) k)) in
    let given_all : after (giving ch h given) records ≡ put_all adds (put_all es records) = after-append (replaces es) (adding adds) records
    ∙ ap (after (adding adds)) (after-replaces es records) ∙ after-adding_all adds (put_all es records) in
    let held_5 : held (put_all adds (put_all es records)) i
    ≡ over (at i adds) (over (if nat_lt i id_bound then replacement (ch.keep i) (h i) else None) (h i)) =
    held-put_all adds (put_all es records) i (apart-free adds (put_all es records) free_then) ∙ ap (over (at i adds)) held_es in
    ap (λ rs. held rs i) (after-append (giving ch h given) (clearing ch h) records ∙ ap (after (clearing ch h)) given_all
    ∙ after-clearing ch h (put_all adds (put_all es records)) (differ-put_all adds (put_all es records) (differ-put_all es records differ)))
    ∙ held-finished is (put_all adds (put_all es records)) i (differ-put_all adds (put_all es records) (differ-put_all es records differ))
    ∙ ap {A = Bool × SideState} (λ p. only_live (if p.0 then nothing else p.1)) (λ k. (has-each_below (λ j. is_purged (ch.keep j) (h j)) id_bound i k, held_5 k))
    ∙ merged_one (nat_lt i id_bound) (ch.keep i) (h i) (at i adds)
    (λ over_bound. (
      shows i ∙ ap held_where (bounded-none records i bounded over_bound),
      no_add adds (put_all es records) free_then over_bound (at i adds) refl,
    ))
    (λ c e. let none = at-free adds (put_all es records) i c free_then e in (
      shows i ∙ ap held_where (free_before_all es records i none),
      not_over (if nat_lt i id_bound then replacement (ch.keep i) (h i) else None) (h i)
          (sym held_es ∙ ap held_where none),
    ))
  where
    no_add : (adds : List (ℕ × ContentValue)) (now : List Record) → AreFree adds now → nat_lt i id_bound ≡ false → (o : Option ContentValue)
        → at i adds ≡ o → o ≡ None
    no_add adds now free over_bound None e = refl
    no_add adds now free over_bound (Some c) e = absurd (let h : true ≡ false = sym (at-bounded adds now i c free e).1 ∙ over_bound in cc)

first-rows : (es : List (ℕ × ContentValue)) (i : ℕ) → held_where (first i (map settled_record es)) ≡ live_or (at i es)
first-rows [] i = refl
first-rows (e ∷ es) i = grind (arith, nat_tests, first-rows es i)

-- the desktop's rows are these too
pub held-rows : (ch : Choice) (given : List ℕ) (i : ℕ) → held (merged_rows ch given) i ≡ live_or (row_under ch given i)
held-rows ch given i = first-rows (each_id (λ j. with_id j (row_at ch given j))) i ∙ ap live_or (at-each_below (row_at ch given) id_bound i)

-- so both sides are equal
pub sides-equal : (ch : Choice) (h : ℕ → SideState) (given : List ℕ) (records : List Record) → RowsDiffer records → AreBounded records
    → ((i : ℕ) → h i ≡ held records i) → AreFree (numbered given ch.adds) (after (replaces (replaced_rows ch.keep h)) records) → (i : ℕ)
    → held (after (giving ch h given ++ clearing ch h) records) i ≡ held (merged_rows ch given) i
sides-equal ch h given records differ bounded shows free i = held-merged ch h given records differ bounded shows free i ∙ sym (held-rows ch given i)
