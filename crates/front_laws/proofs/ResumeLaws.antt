-- What a session that stopped did and what the next one does is what one session would do under the ids of both.
use Rattle.std.proofs.Common.{◌≡◌, ℕ, ◌==◌, List, [], ◌∷◌, ◌++◌, refl, ap, ◌∙◌, sym, subst, arith, true, false, Bool, Option, Some, None, if◌then◌else◌}
use Rattle.std.specs.Option.{option_or}
use Rattle.std.proofs.lemmas.Bool.Decides.{nat_tests}
use Rattle.pdb_values.specs.Contents.{ContentValue}
use Rattle.pdb_values.specs.declared.record.Record.{Record}
use Rattle.palm_device.specs.Records.{put_record, IsFree}
use Rattle.conduit_rules.specs.ById.{id_bound, put, with_id}
use Rattle.conduit_rules.specs.Choices.{Choice, Sides, choice}
use Rattle.conduit_rules.specs.Fates.{Fate, fate}
use Rattle.conduit_rules.specs.Plans.{replacement, lost, purged_at, replaced_rows, purged_ids, gone_rows}
use Rattle.conduit_rules.specs.States.{SideState, nothing, live, BaseState, no_base}
use Rattle.conduit_rules.specs.Writes.{given_to}
use Rattle.conduit_rules.proofs.ByIdLaws.{each_below-same}
use Rattle.conduit_rules.proofs.ChoiceLaws.{choice-put, choice-add}
use Rattle.conduit_rules.proofs.ContentLaws.{same_content-same}
use Rattle.record_merge.specs.Merging.{row_at}
use Rattle.record_merge.specs.Stops.{sides_after, behind, with_add, rest_of, AreOf}
use Rattle.record_merge.specs.Writes.{Write, replace, add, purge, clean_up, reset, after, numbered, replaces, adding, giving, AreFree, GotFreeIds}
use Rattle.front_laws.specs.Repeats.{given_by}
use Rattle.front_laws.proofs.FirstLaws.{first-out}

-- ---- a replacement that was made

module _ (keep : ℕ → Option ContentValue) (h : ℕ → SideState) (i : ℕ) {c : ContentValue} (kept : keep i ≡ Some c) where
  put_replacement : (j : ℕ) → replacement (keep j) (put h i (live c) j) ≡ put (λ m. replacement (keep m) (h m)) i None j
  put_replacement j = by (j == i) refl
    where
      by : (b : Bool) → (j == i) ≡ b → replacement (keep j) (put h i (live c) j) ≡ put (λ m. replacement (keep m) (h m)) i None j
      by true is = let same : j ≡ i = grind (arith, nat_tests, is) in let too : keep j ≡ Some c = ap keep same
          ∙ kept in grind (arith, is, too, same_content-same c)
      by false is = grind (arith, is)

  put_purged : (j : ℕ) → purged_at (keep j) (h j) j ≡ purged_at (keep j) (put h i (live c) j) j
  put_purged j = grind arith

  put_lost : (j : ℕ) → lost (keep j) (h j) ≡ lost (keep j) (put h i (live c) j)
  put_lost j = grind arith

  pub replaced_put : {rest : List (ℕ × ContentValue)} → replaced_rows keep h ≡ (i, c) ∷ rest → replaced_rows keep (put h i (live c)) ≡ rest
  replaced_put is =
      each_below-same (λ j. with_id j (replacement (keep j) (put h i (live c) j))) (λ j. with_id j (put (λ m. replacement (keep m) (h m)) i None j))
      id_bound (λ j l. ap (with_id j) (put_replacement j))
      ∙ (first-out (λ m. replacement (keep m) (h m)) id_bound is).1

  pub purges_put : purged_ids keep h ≡ purged_ids keep (put h i (live c))
  purges_put = each_below-same (λ j. purged_at (keep j) (h j) j) (λ j. purged_at (keep j) (put h i (live c) j) j) id_bound (λ j l. put_purged j)

  gone_put : gone_rows keep h ≡ gone_rows keep (put h i (live c))
  gone_put = each_below-same (λ j. with_id j (lost (keep j) (h j))) (λ j. with_id j (lost (keep j) (put h i (live c) j))) id_bound
      (λ j l. ap (with_id j) (put_lost j))

-- ---- an add that was made

-- whatever is looked at by what is kept and what is held, and is the same for nothing as for the add
add_same : {A : Type 0} (F : ℕ → Option ContentValue → SideState → A) (keep : ℕ → Option ContentValue) (h : ℕ → SideState) (g : ℕ) (a : ContentValue)
    → keep g ≡ None → h g ≡ nothing → F g None nothing ≡ F g (Some a) (live a) → (j : ℕ)
    → F j (keep j) (h j) ≡ F j (put keep g (Some a) j) (put h g (live a) j)
add_same {A} F keep h g a none bare same j = grind arith

no_replacement : (a : ContentValue) → replacement None nothing ≡ replacement (Some a) (live a)
no_replacement a = grind (arith, same_content-same a)

module _ (keep : ℕ → Option ContentValue) (h : ℕ → SideState) (g : ℕ) (a : ContentValue) (none : keep g ≡ None) (bare : h g ≡ nothing) where
  replaced_add : replaced_rows keep h ≡ replaced_rows (put keep g (Some a)) (put h g (live a))
  replaced_add =
      each_below-same (λ j. with_id j (replacement (keep j) (h j))) (λ j. with_id j (replacement (put keep g (Some a) j) (put h g (live a) j))) id_bound
      (λ j l. add_same (λ m k x. with_id m (replacement k x)) keep h g a none bare (ap (with_id g) (no_replacement a)) j)

  purges_add : purged_ids keep h ≡ purged_ids (put keep g (Some a)) (put h g (live a))
  purges_add =
      each_below-same (λ j. purged_at (keep j) (h j) j) (λ j. purged_at (put keep g (Some a) j) (put h g (live a) j) j) id_bound
      (λ j l. add_same (λ m k x. purged_at k x m) keep h g a none bare refl j)

  gone_add : gone_rows keep h ≡ gone_rows (put keep g (Some a)) (put h g (live a))
  gone_add =
      each_below-same (λ j. with_id j (lost (keep j) (h j))) (λ j. with_id j (lost (put keep g (Some a) j) (put h g (live a) j))) id_bound
      (λ j l. add_same (λ m k x. with_id m (lost k x)) keep h g a none bare refl j)

one_more : (same : Bool) (k o : Option ContentValue) (a : ContentValue) → (same ≡ true → k ≡ None)
    → option_or k (if same then Some a else o) ≡ option_or (if same then Some a else k) o
one_more same k o a none = grind arith

-- a row that stands under an add's id, whether it is to be added or is kept there
row_add : (ch : Choice) (g : ℕ) {a : ContentValue} (gs : List ℕ) (i : ℕ) → ch.keep g ≡ None → ch.adds ≡ a ∷ behind ch.adds
    → row_at ch (g ∷ gs) i ≡ row_at (with_add ch g a) gs i
row_add ch g gs i none next = grind arith

-- nothing is kept under an id that has no base row and that nothing holds
pub not_kept : {b : BaseState} {h : SideState} (d : SideState) → b ≡ no_base → h ≡ nothing → (fate b h d).keep ≡ None
not_kept d none bare = ap {A = BaseState × SideState} (λ p. Fate.keep (fate p.0 p.1 d)) (λ k. (none k, bare k))

-- ---- the first of the writes

abbrev pub rows_behind : List (ℕ × ContentValue) → List (ℕ × ContentValue)
rows_behind [] = []
rows_behind (e ∷ es) = es

pub replace_head : {i : ℕ} {c : ContentValue} (es adds : List (ℕ × ContentValue)) {ws : List Write} → replaces es ++ adding adds ≡ replace i c ∷ ws
    → (es ≡ (i, c) ∷ rows_behind es) × (replaces (rows_behind es) ++ adding adds ≡ ws)
replace_head [] [] is = absurd (cc)
replace_head [] (x ∷ xs) is = absurd (cc)
replace_head (e ∷ es) adds is = grind arith

pub add_head : {g : ℕ} {a : ContentValue} (es adds : List (ℕ × ContentValue)) {ws : List Write} → replaces es ++ adding adds ≡ add g a ∷ ws
    → (es ≡ []) × (adding adds ≡ add g a ∷ ws)
add_head [] adds is = (refl, is)
add_head (e ∷ es) adds is = absurd (cc)

add_tail : {g : ℕ} {a : ContentValue} (gs : List ℕ) {cs later : List ContentValue} {ws : List Write} → cs ≡ a ∷ later
    → adding (numbered (g ∷ gs) cs) ≡ add g a ∷ ws → adding (numbered gs later) ≡ ws
add_tail gs next is = grind arith

-- ---- what was done and what is left

-- ids that were free for what was done and for what is left are free for both
abbrev pub AreFreeTogether : List Write → Choice → Sides → List ℕ → List Record → Type 0
AreFreeTogether done ch s later records =
    GotFreeIds ch s.handheld (given_by done) records → GotFreeIds (rest_of done ch) (sides_after done s).handheld later (after done records)
    → GotFreeIds ch s.handheld (given_by done ++ later) records

-- what one session would do is what was done, and then what is left to do
pub record Resumed (done : List Write) (ch : Choice) (s : Sides) (later : List ℕ) : Type 0 where
  pub writes : giving ch s.handheld (given_by done ++ later) ≡ done ++ giving (rest_of done ch) (sides_after done s).handheld later
  pub purges : purged_ids ch.keep s.handheld ≡ purged_ids (rest_of done ch).keep (sides_after done s).handheld
  pub gone : gone_rows ch.keep s.handheld ≡ gone_rows (rest_of done ch).keep (sides_after done s).handheld
  pub rows : (i : ℕ) → row_at ch (given_by done ++ later) i ≡ row_at (rest_of done ch) later i
  pub archive : ch.archive ≡ (rest_of done ch).archive
  pub free : (records : List Record) → AreFreeTogether done ch s later records

pub resume : (done : List Write) {ch : Choice} (s : Sides) → choice s ≡ ch → AreOf done ch s → (more : List Write)
    → giving ch s.handheld (given_by done) ≡ done ++ more → (later : List ℕ) → Resumed done ch s later
resume [] s e of more is later = grind arith
resume (replace i c ∷ ws) {ch} s e of more is later =
    let s1 = given_to s i c in
    let rows = replaced_rows ch.keep s.handheld in
    let head = replace_head rows (numbered (given_by ws) ch.adds) is in
    let next = replaced_put ch.keep s.handheld i of.0 head.0 in
    let rest = resume ws s1 (choice-put s i c (ap (λ x. Choice.keep x i) e ∙ of.0)
    ∙ e) of.1 more (ap (λ es. replaces es ++ adding (numbered (given_by ws) ch.adds)) next ∙ head.1) later in
    let now : (records : List Record) → after (replaces rows) records ≡ after (replaces (replaced_rows ch.keep s1.handheld)) (put_record i c records) =
    λ records.
    ap (λ es. after (replaces es) records) head.0 ∙ ap (λ es. after (replaces es) (put_record i c records)) (sym next) in
    record {
      writes = ap (λ es. replaces es ++ adding (numbered (given_by ws ++ later) ch.adds)) head.0
          ∙ ap (λ es. replace i c ∷ (replaces es ++ adding (numbered (given_by ws ++ later) ch.adds))) (sym next)
          ∙ ap (λ xs. replace i c ∷ xs) rest.writes;
      purges = purges_put ch.keep s.handheld i of.0 ∙ rest.purges;
      gone = gone_put ch.keep s.handheld i of.0 ∙ rest.gone;
      rows = rest.rows;
      archive = rest.archive;
      free = λ records got then_got. subst (AreFree (numbered (given_by ws ++ later) ch.adds)) (sym (now records))
          (rest.free (put_record i c records) (subst (AreFree (numbered (given_by ws) ch.adds)) (now records) got) then_got);
    }
resume (add g a ∷ ws) {ch} s e of more is later =
    let s1 = given_to s g a in
    let ch1 = with_add ch g a in
    let gs = given_by ws in
    let none : ch.keep g ≡ None = sym (ap (λ x. Choice.keep x g) e) ∙ not_kept (s.desktop g) of.1 of.2 in
    let rows = replaced_rows ch.keep s.handheld in
    let head = add_head rows (numbered (g ∷ gs) ch.adds) is in
    let same = replaced_add ch.keep s.handheld g a none of.2 in
    let then_none : replaced_rows ch1.keep s1.handheld ≡ [] = sym same ∙ head.0 in
    let again : choice s1 ≡ ch1 = choice-add s g a (behind ch.adds) of.1 of.2 of.3 (ap (λ x. Choice.adds x) e ∙ of.0)
    ∙ λ k. record { keep = put (e k).keep g (Some a); archive = (e k).archive; adds = behind ch.adds } in
    let rest = resume ws s1 again of.4 more (ap (λ es. replaces es ++ adding (numbered gs (behind ch.adds))) then_none ∙ add_tail gs of.0 head.1) later in
    let first_free : (ids : List ℕ) (records : List Record)
    → AreFree (numbered (g ∷ ids) ch.adds) (after (replaces rows) records) ≡ AreFree ((g, a) ∷ numbered ids (behind ch.adds)) records = λ ids records.
    ap {A = List ContentValue × List (ℕ × ContentValue)} (λ p. AreFree (numbered (g ∷ ids) p.0) (after (replaces p.1) records)) (λ k. (of.0 k, head.0 k)) in
    let later_free : (ids : List ℕ) (records : List Record)
    → AreFree (numbered ids (behind ch.adds)) (after (replaces (replaced_rows ch1.keep s1.handheld)) records)
    ≡ AreFree (numbered ids (behind ch.adds)) records = λ ids records.
    ap (λ es. AreFree (numbered ids (behind ch.adds)) (after (replaces es) records)) then_none in
    record {
      writes = ap {A = List ContentValue × List (ℕ × ContentValue)} (λ p. replaces p.1 ++ adding (numbered (g ∷ gs ++ later) p.0)) (λ k. (of.0 k, head.0 k))
          ∙ ap (λ es. add g a ∷ (replaces es ++ adding (numbered (gs ++ later) (behind ch.adds)))) (sym then_none)
          ∙ ap (λ xs. add g a ∷ xs) rest.writes;
      purges = purges_add ch.keep s.handheld g a none of.2 ∙ rest.purges;
      gone = gone_add ch.keep s.handheld g a none of.2 ∙ rest.gone;
      rows = λ i. row_add ch g (gs ++ later) i none of.0 ∙ rest.rows i;
      archive = rest.archive;
      free = λ records got then_got.
          let both : IsFree g records × AreFree (numbered gs (behind ch.adds)) (put_record g a records) =
          subst (λ (T : Type 0). T) (first_free gs records) got in
          let then_free = subst (λ (T : Type 0). T) (later_free (gs ++ later) (put_record g a records))
          (rest.free (put_record g a records) (subst (λ (T : Type 0). T) (sym (later_free gs (put_record g a records))) both.1) then_got) in
          subst (λ (T : Type 0). T) (sym (first_free (gs ++ later) records)) (both.0, then_free);
    }
resume (purge i ∷ ws) s e of more is later = absurd of
resume (clean_up ∷ ws) s e of more is later = absurd of
resume (reset ∷ ws) s e of more is later = absurd of
