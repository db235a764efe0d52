-- What a session costs the desktop where it is run again behind one that stopped.
use Rattle.std.proofs.lemmas.Bool.{cases_lt, or_parts}
use Rattle.std.proofs.lemmas.Bool.Decides.{nat_tests}
use Rattle.std.proofs.lemmas.List.{append_assoc}
use Rattle.std.proofs.lemmas.List.Folds.{list_any-append}
use Rattle.std.proofs.Common.{◌≡◌, ◌∙◌, ◌<◌, ◌||◌, ◌&&◌, ◌++◌, refl, ap, sym, subst, arith, ℕ, zero, suc, Bool, true, false, not, List, [], ◌∷◌, map, Option, Some, None, inl, inr}
use Rattle.std.proofs.Common.{if◌then◌else◌, is_some, nat_lt, ◌==◌}
use Rattle.std.specs.List.{list_any}
use Rattle.std.specs.Prelude.{◌⊎◌, ◌≤◌}
use Rattle.pdb_values.specs.Contents.{ContentValue}
use Rattle.pdb_values.specs.declared.record.Record.{Record}
use Rattle.palm_device.specs.Records.{put_record}
use Rattle.conduit_rules.specs.ById.{each_below, each_id, id_bound, put, with_id}
use Rattle.conduit_rules.specs.Choices.{Choice, Sides, choice, sides_of}
use Rattle.conduit_rules.specs.Contents.{same_content}
use Rattle.conduit_rules.specs.Plans.{kept_rows}
use Rattle.conduit_rules.specs.States.{first}
use Rattle.conduit_rules.specs.Views.{slow_view}
use Rattle.conduit_rules.specs.Writes.{given_to}
use Rattle.conduit_rules.specs.declared.action.Action.TheVariants.{Sync}
use Rattle.conduit_rules.specs.declared.view.Seen.{Seen}
use Rattle.conduit_rules.proofs.ByIdLaws.{each_below-same, each_below-suc, each_below-zero}
use Rattle.conduit_rules.proofs.ChoiceLaws.{choice-add, choice-put}
use Rattle.conduit_rules.proofs.ContentLaws.{same_content-same}
use Rattle.record_merge.specs.Merging.{row_at, row_under, settled_record}
use Rattle.record_merge.specs.Stops.{AreOf, AreWrites, behind, rest_of, with_add}
use Rattle.record_merge.specs.Writes.{GotFreeIds, Write, add, after, clean_up, giving, purge, replace, reset}
use Rattle.record_merge.proofs.PutLaws.{first-put, put_over}
use Rattle.record_merge.proofs.StopLaws.{choice-after, giving-of, of-take, sides-again, writes-of}
use Rattle.session_plan.specs.Losses.{is_among, is_lost, is_there, stays}
use Rattle.session_plan.proofs.LossLaws.{lost_all_grows, there-slow_view}
use Rattle.front_laws.specs.Losses.{has_lost, loses_rows}
use Rattle.front_laws.specs.Repeats.{Finding, GotIds, IsRead, StopsAmongNews, chosen, left_among_news, left_at_end, left_behind_commit, news_done}
use Rattle.front_laws.proofs.CommitLaws.{chosen-commit, chosen-end, kept_alone, within_bound}
use Rattle.front_laws.proofs.NewsLaws.{choice-counted}
use Rattle.front_laws.proofs.ResumeLaws.{not_kept}
use Rattle.front_laws.proofs.SoundLaws.{read-commit, read-news}

-- ---- tests of what stands under each id

or_grows : (a b c d : Bool) → (a ≡ true → c ≡ true) → (b ≡ true → d ≡ true) → (a || b) ≡ true → (c || d) ≡ true
or_grows true b c d first second is = rw (first refl)
or_grows false b true d first second is = refl
or_grows false b false d first second is = second is

module _ {A : Type 0} (p : A → Bool) where
  any-suc : (f : ℕ → List A) (n : ℕ) → list_any p (each_below f (suc n)) ≡ (list_any p (each_below f n) || list_any p (f n))
  any-suc f n = ap (list_any p) (each_below-suc f n) ∙ list_any-append p (each_below f n) (f n)

  any-grows : (f g : ℕ → List A) (n : ℕ) → ((i : ℕ) → list_any p (f i) ≡ true → list_any p (g i) ≡ true)
      → list_any p (each_below f n) ≡ true → list_any p (each_below g n) ≡ true
  any-grows f g zero grows is = absurd (let no : true ≡ false = sym is ∙ ap (list_any p) (each_below-zero f) in cc)
  any-grows f g (suc n) grows is =
      any-suc g n ∙ or_grows (list_any p (each_below f n)) (list_any p (f n)) (list_any p (each_below g n)) (list_any p (g n))
      (any-grows f g n grows) (grows n) (sym (any-suc f n) ∙ is)

  any-one : (f : ℕ → List A) (i n : ℕ) → i < n → list_any p (f i) ≡ true → list_any p (each_below f n) ≡ true
  any-one f i zero below is = absurd (omega (arith, below))
  any-one f i (suc n) below is = any-suc f n ∙ by (λ less. any-one f i n less is) (cases_lt i n)
    where
      or_right : (a : Bool) → (a || true) ≡ true
      or_right true = refl
      or_right false = refl

      by : (i < n → list_any p (each_below f n) ≡ true) → (i < n) ⊎ (n ≤ i) → (list_any p (each_below f n) || list_any p (f n)) ≡ true
      by before (inl less) = rw (before less) refl
      by before (inr past) =
          let same : i ≡ n = omega (arith, below, past) in
          ap (λ b. list_any p (each_below f n) || b) (sym (ap (λ j. list_any p (f j)) same) ∙ is) ∙ or_right (list_any p (each_below f n))

-- ---- records that are there

still : (b : Bool) (old now : Option Record) → (is_some old ≡ true → is_some now ≡ true) → (b && is_some old) ≡ true → (b && is_some now) ≡ true
still true old now grows is = grows is
still false old now grows is = is

put-there : (i : ℕ) (c : ContentValue) (records : List Record) (j : ℕ) → is_some (first j records) ≡ true → is_some (first j (put_record i c records)) ≡ true
put-there i c records j is = ap is_some (first-put i c records j) ∙ by (j == i)
  where
    by : (b : Bool) → is_some (if b then Some (put_over i c (first i records)) else first j records) ≡ true
    by true = refl
    by false = is

-- replacements and adds take none away
stays-there : (ws : List Write) (records : List Record) (i : ℕ) → AreWrites ws → is_some (first i records) ≡ true → is_some (first i (after ws records)) ≡ true
stays-there [] records i writes is = is
stays-there (replace j c ∷ ws) records i writes is = stays-there ws (put_record j c records) i writes (put-there j c records i is)
stays-there (add g c ∷ ws) records i writes is = stays-there ws (put_record g c records) i writes (put-there g c records i is)
stays-there (purge j ∷ ws) records i writes is = absurd writes
stays-there (clean_up ∷ ws) records i writes is = absurd writes
stays-there (reset ∷ ws) records i writes is = absurd writes

-- ---- what stays, stays

-- a row has this content
abbrev has_content : ContentValue → ℕ × ContentValue → Bool
has_content c row = same_content row.1 c

-- once the next add is kept under an id under which nothing was
module _ (ch : Choice) (g : ℕ) (a c : ContentValue) (none : ch.keep g ≡ None) (next : ch.adds ≡ a ∷ behind ch.adds) (below : g < id_bound) where
  put_same : (i : ℕ) → list_any (has_content c) (with_id i (ch.keep i)) ≡ true → list_any (has_content c) (with_id i (put ch.keep g (Some a) i)) ≡ true
  put_same i is = by (i == g) refl
    where
      by : (b : Bool) → (i == g) ≡ b → list_any (has_content c) (with_id i (if b then Some a else ch.keep i)) ≡ true
      by true same =
          let at : i ≡ g = grind (arith, nat_tests, same) in
          absurd (let no : true ≡ false = sym is ∙ ap (λ o. list_any (has_content c) (with_id i o)) (ap ch.keep at ∙ none) in cc)
      by false other = is

  put_here : same_content a c ≡ true → list_any (has_content c) (with_id g (put ch.keep g (Some a) g)) ≡ true
  put_here is = by (g == g) (grind (arith, nat_tests))
    where
      by : (b : Bool) → b ≡ true → list_any (has_content c) (with_id g (if b then Some a else ch.keep g)) ≡ true
      by true own = rw is
      by false own = absurd cc

  stays-add : (es : List (ℕ × ContentValue)) → stays (kept_rows ch.keep) ch.adds es c ≡ true
      → stays (kept_rows (with_add ch g a).keep) (with_add ch g a).adds es c ≡ true
  stays-add es is =
      by (list_any (has_content c) (kept_rows ch.keep)) (same_content a c) (list_any (λ new. same_content new c) (behind ch.adds)) (is_among es c) refl refl
      (ap (λ xs. list_any (has_content c) (kept_rows ch.keep) || (list_any (λ new. same_content new c) xs || is_among es c)) (sym next) ∙ is)
    where
      or_true : (b : Bool) → (b || true) ≡ true
      or_true true = refl
      or_true false = refl

      by : (old own later put_away : Bool) → list_any (has_content c) (kept_rows ch.keep) ≡ old → same_content a c ≡ own
          → (old || ((own || later) || put_away)) ≡ true
          → (list_any (has_content c) (kept_rows (put ch.keep g (Some a))) || (later || put_away)) ≡ true
      by true own later put_away was has is =
          rw (any-grows (has_content c) (λ i. with_id i (ch.keep i)) (λ i. with_id i (put ch.keep g (Some a) i)) id_bound put_same was)
      by false true later put_away was has is =
          rw (any-one (has_content c) (λ i. with_id i (put ch.keep g (Some a) i)) g id_bound below (put_here has))
      by false false later put_away was has is = rw is (or_true (list_any (has_content c) (kept_rows (put ch.keep g (Some a)))))

stays-rest : (es : List (ℕ × ContentValue)) (done : List Write) (ch : Choice) (s : Sides) → choice s ≡ ch → AreOf done ch s → (c : ContentValue)
    → stays (kept_rows ch.keep) ch.adds es c ≡ true → stays (kept_rows (rest_of done ch).keep) (rest_of done ch).adds es c ≡ true
stays-rest es [] ch s e of c is = is
stays-rest es (replace i d ∷ ws) ch s e of c is =
    stays-rest es ws ch (given_to s i d) (choice-put s i d (ap (λ x. Choice.keep x i) e ∙ of.0) ∙ e) of.1 c is
stays-rest es (add g a ∷ ws) ch s e of c is =
    let none : ch.keep g ≡ None = sym (ap (λ x. Choice.keep x g) e) ∙ not_kept (s.desktop g) of.1 of.2 in
    let again : choice (given_to s g a) ≡ with_add ch g a = choice-add s g a (behind ch.adds) of.1 of.2 of.3 (ap (λ x. Choice.adds x) e ∙ of.0)
    ∙ λ k. record { keep = put (e k).keep g (Some a); archive = (e k).archive; adds = behind ch.adds } in
    stays-rest es ws (with_add ch g a) (given_to s g a) again of.4 c (stays-add ch g a c none of.0 of.3 es is)
stays-rest es (purge i ∷ ws) ch s e of c is = absurd of
stays-rest es (clean_up ∷ ws) ch s e of c is = absurd of
stays-rest es (reset ∷ ws) ch s e of c is = absurd of

-- what is archived is archived still
rest-archive : (done : List Write) (ch : Choice) → (rest_of done ch).archive ≡ ch.archive
rest-archive [] ch = refl
rest-archive (replace i d ∷ ws) ch = rest-archive ws ch
rest-archive (add g a ∷ ws) ch = rest-archive ws (with_add ch g a)
rest-archive (purge i ∷ ws) ch = refl
rest-archive (clean_up ∷ ws) ch = refl
rest-archive (reset ∷ ws) ch = refl

-- ---- rows that are lost

abbrev lost_of : List (ℕ × ContentValue) → Choice → Record → Bool
lost_of es ch row = is_lost (kept_rows ch.keep) ch.adds es row

lost_by : (alive s t : Bool) → (s ≡ true → t ≡ true) → (alive && not s) ≡ false → (alive && not t) ≡ false
lost_by false s t grows is = refl
lost_by true true t grows is = rw (grows refl)
lost_by true false t grows is = absurd cc

none-lost : (es : List (ℕ × ContentValue)) (ch now : Choice)
    → ((c : ContentValue) → stays (kept_rows ch.keep) ch.adds es c ≡ true → stays (kept_rows now.keep) now.adds es c ≡ true)
    → (rows : List Record) → list_any (lost_of es ch) rows ≡ false → list_any (lost_of es now) rows ≡ false
none-lost es ch now grows [] is = refl
none-lost es ch now grows (r ∷ rows) is =
    let parts = or_parts (lost_of es ch r) (list_any (lost_of es ch) rows) is in
    let here : lost_of es now r ≡ false = lost_by (not r.deleted) (stays (kept_rows ch.keep) ch.adds es r.content)
    (stays (kept_rows now.keep) now.adds es r.content) (grows r.content) parts.0 in
    rw here (none-lost es ch now grows rows parts.1)

-- ---- among the news

-- the sides of a session, where gone rows count
abbrev counted_sides : Finding → Sides
counted_sides x = sides_of x.view x.rows x.base true

module _ (x : Finding) (given : List ℕ) (n : ℕ) (stops : StopsAmongNews Sync x given n) where
  counted : choice (counted_sides x) ≡ chosen Sync x
  counted = sym (choice-counted x.view x.rows x.base x.records x.gone_counts stops.read.shows stops.gone)

  done_of : AreOf (news_done Sync x given n) (chosen Sync x) (counted_sides x)
  done_of =
      let s = counted_sides x in
      let ch = chosen Sync x in
      let all_of : AreOf (giving ch s.handheld given) ch s = subst (λ c. AreOf (giving c s.handheld given) c s) counted
      (giving-of s given x.records stops.fresh stops.read.shows (subst (λ c. GotFreeIds c s.handheld given x.records) (sym counted) stops.got)) in
      of-take n (giving ch s.handheld given) ch s all_of

  pub news-loses : loses_rows x ≡ false → loses_rows (left_among_news Sync x given n) ≡ false
  news-loses keeps =
      let s = counted_sides x in
      let ch = chosen Sync x in
      let done = news_done Sync x given n in
      let y = left_among_news Sync x given n in
      let read = read-news Sync x given n stops.read stops.got in
      let sides_are = sides-again x.view (slow_view (after done x.records)) done x.rows x.base x.records true (writes-of done ch s done_of) stops.read.shows
      read.shows in
      let chosen_is : chosen Sync y ≡ rest_of done ch = ap choice sides_are ∙ choice-after done ch s counted done_of in
      ap (λ c. list_any (lost_of (x.archive ++ c.archive) c) x.rows) chosen_is
      ∙ ap (λ es. list_any (lost_of (x.archive ++ es) (rest_of done ch)) x.rows) (rest-archive done ch)
      ∙ none-lost (x.archive ++ ch.archive) ch (rest_of done ch) (stays-rest (x.archive ++ ch.archive) done ch s counted done_of) x.rows keeps

  -- no record goes
  pub news-has_lost : ((i : ℕ) → is_there x.view i ≡ (nat_lt i id_bound && is_some (first i x.records)))
      → has_lost (left_among_news Sync x given n) ≡ true → has_lost x ≡ true
  news-has_lost sees is =
      let done = news_done Sync x given n in
      let writes = writes-of done (chosen Sync x) (counted_sides x) done_of in
      lost_all_grows x.base x.view (slow_view (after done x.records))
      (λ i there. there-slow_view (after done x.records) i
      ∙ still (nat_lt i id_bound) (first i x.records) (first i (after done x.records)) (stays-there done x.records i writes) (sym (sees i) ∙ there)) is

-- ---- behind the commit

-- rows stay among themselves
settled-stay : (before es archive : List (ℕ × ContentValue)) → list_any (is_lost (before ++ es) [] archive) (map settled_record es) ≡ false
settled-stay before [] archive = refl
settled-stay before (e ∷ es) archive =
    let here : list_any (has_content e.1) (before ++ e ∷ es) ≡ true = list_any-append (has_content e.1) before (e ∷ es)
    ∙ ap (λ b. list_any (has_content e.1) before || (b || list_any (has_content e.1) es)) (same_content-same e.1)
    ∙ or_true (list_any (has_content e.1) before) in
    let later = settled-stay (before ++ e ∷ []) es archive in
    let front : (before ++ e ∷ []) ++ es ≡ before ++ e ∷ es = append_assoc before (e ∷ []) es in
    ap (λ b. not (b || is_among archive e.1) || list_any (is_lost (before ++ e ∷ es) [] archive) (map settled_record es)) here
    ∙ ap (λ all. list_any (is_lost all [] archive) (map settled_record es)) (sym front) ∙ later
  where
    or_true : (b : Bool) → (b || true) ≡ true
    or_true true = refl
    or_true false = refl

-- so merged rows lose none where they alone are kept
merged-loses : (archive : List (ℕ × ContentValue)) (ch : Choice) (given : List ℕ) (now : Choice) → now ≡ kept_alone (row_under ch given)
    → list_any (lost_of archive now) (map settled_record (each_id (λ i. with_id i (row_at ch given i)))) ≡ false
merged-loses archive ch given now is =
    let rows = each_id (λ i. with_id i (row_at ch given i)) in
    let kept : kept_rows (row_under ch given) ≡ rows = each_below-same (λ i. with_id i (row_under ch given i)) (λ i. with_id i (row_at ch given i)) id_bound
    (λ i l. ap (with_id i) (within_bound (nat_lt i id_bound) (row_at ch given i) (grind (arith, nat_tests, l)))) in
    ap (λ c. list_any (lost_of archive c) (map settled_record rows)) is ∙ ap (λ es. list_any (is_lost es [] archive) (map settled_record rows)) kept
    ∙ settled-stay [] rows archive

pub commit-loses : (x : Finding) (given : List ℕ) (n : ℕ) → IsRead x → GotIds Sync x given → loses_rows (left_behind_commit Sync x given n) ≡ false
commit-loses x given n read got =
    let y = left_behind_commit Sync x given n in
    merged-loses (y.archive ++ (chosen Sync y).archive) (chosen Sync x) given (chosen Sync (left_behind_commit Sync x given n))
    (chosen-commit Sync x given n tt read got (read-commit Sync x given n read got)).0

pub end-loses : (x : Finding) (given : List ℕ) (view : List Seen) (gone_counts : Bool) → IsRead x → GotIds Sync x given
    → IsRead (left_at_end Sync x given view gone_counts) → loses_rows (left_at_end Sync x given view gone_counts) ≡ false
end-loses x given view gone_counts read got then_read =
    let y = left_at_end Sync x given view gone_counts in
    merged-loses (y.archive ++ (chosen Sync y).archive) (chosen Sync x) given (chosen Sync (left_at_end Sync x given view gone_counts)) (chosen-end Sync x given view gone_counts read got then_read)
