-- Which ids the adds got doesn't matter to counts of the merged rows, and the merged records are live, clean and honest.
use Rattle.std.proofs.Common.{◌≡◌, ℕ, ◌+◌, ◌<◌, ◌==◌, List, [], ◌∷◌, ◌++◌, ap, ◌∙◌, sym, subst, arith, true, false, Bool, Option, Some, None, if◌then◌else◌}
use Rattle.std.proofs.Common.{nat_lt, option_to_list, sum_by}
use Rattle.std.specs.Option.{option_or}
use Rattle.std.proofs.lemmas.Grind.{common_steps}
use Rattle.std.proofs.lemmas.Bool.Decides.{nat_tests}
use Rattle.pdb_values.specs.Contents.{ContentValue}
use Rattle.pdb_values.specs.declared.record.Record.{Record}
use Rattle.palm_device.specs.Records.{put_record}
use Rattle.conduit_rules.specs.ById.{id_bound, each_below, each_id, with_id, at, put}
use Rattle.conduit_rules.specs.States.{SideState, nothing, first, held, held_where, record_held, no_base}
use Rattle.conduit_rules.specs.Choices.{Choice}
use Rattle.conduit_rules.specs.Plans.{replacement, replaced_rows, gone_rows, kept_rows}
use Rattle.conduit_rules.proofs.ByIdLaws.{each_below-same, sum-each_below_put}
use Rattle.conduit_rules.proofs.PlanLaws.{replaced_rise, at-each_below}
use Rattle.conduit_rules.specs.Views.{IsHonest, IsHonestUnder}
use Rattle.conduit_rules.proofs.AgreedLaws.{RowsDiffer}
use Rattle.record_merge.specs.Writes.{after, numbered, replaces, giving, clearing, AreFree}
use Rattle.record_merge.specs.Merging.{row_at, merged_base, AreBounded, row_under, AreNew}
use Rattle.record_merge.proofs.PutLaws.{put_all}
use Rattle.record_merge.proofs.AfterLaws.{place-first, free_before, free_before_all, after-replaces, apart-rising}
use Rattle.record_merge.proofs.HeldLaws.{held-merged, held-put_all, not_over, apart-free}
use Rattle.conduit_rules.proofs.BoundLaws.{live_or}
use Rattle.record_merge.proofs.StopLaws.{within}
use Rattle.record_merge.proofs.SettledLaws.{based-merged, based_two}

-- the pair of a content under its id
abbrev pub entry : ℕ → Option ContentValue → Option (ℕ × ContentValue)
entry i None = None
entry i (Some c) = Some (i, c)

with_id-is : (i : ℕ) (o : Option ContentValue) → with_id i o ≡ option_to_list (entry i o)
with_id-is i o = grind arith

or_none : (o : Option ContentValue) → option_or o None ≡ o
or_none o = grind arith

abbrev rows_below : (ℕ → Option ContentValue) → ℕ → List (ℕ × ContentValue)
rows_below f n = each_below (λ i. option_to_list (entry i (f i))) n

abbrev with_adds : (ℕ → Option ContentValue) → List (ℕ × ContentValue) → ℕ → Option ContentValue
with_adds keep es i = option_or (keep i) (at i es)

with_adds-cons : (keep : ℕ → Option ContentValue) (e : ℕ × ContentValue) (es : List (ℕ × ContentValue)) (i : ℕ) → keep e.0 ≡ None
    → entry i (with_adds keep (e ∷ es) i) ≡ put (λ j. entry j (with_adds keep es j)) e.0 (Some e) i
with_adds-cons keep e es i none = grind arith

sum-below : (w : ℕ × ContentValue → ℕ) (keep : ℕ → Option ContentValue) (es : List (ℕ × ContentValue)) (n : ℕ) → AreNew keep es n
    → sum_by w (rows_below (with_adds keep es) n) ≡ sum_by w (rows_below keep n) + sum_by w es
sum-below w keep [] n new = grind arith
sum-below w keep (e ∷ es) n new =
    ap (sum_by w) (each_below-same (λ i. option_to_list (entry i (with_adds keep (e ∷ es) i)))
    (λ i. option_to_list (put (λ j. entry j (with_adds keep es j)) e.0 (Some e) i)) n (λ i l. ap option_to_list (with_adds-cons keep e es i new.0)))
    ∙ sum-each_below_put w (λ j. entry j (with_adds keep es j)) e.0 e n
    (ap (entry e.0) (ap {A = Option ContentValue × Option ContentValue} (λ p. option_or p.0 p.1) (λ k. (new.0 k, new.1 k)))) new.2
    ∙ grind (arith, common_steps, sum-below w keep es n new.3)

-- any weight of the merged rows is that of the kept rows and that of the adds
pub sum-rows : (w : ℕ × ContentValue → ℕ) (ch : Choice) (given : List ℕ) → AreNew ch.keep (numbered given ch.adds) id_bound
    → sum_by w (each_id (λ i. with_id i (row_at ch given i))) ≡ sum_by w (kept_rows ch.keep) + sum_by w (numbered given ch.adds)
sum-rows w ch given new =
    ap (sum_by w) (each_below-same (λ i. with_id i (row_at ch given i)) (λ i. option_to_list (entry i (row_at ch given i))) id_bound
    (λ i l. with_id-is i (row_at ch given i)))
    ∙ sum-below w ch.keep (numbered given ch.adds) id_bound new
    ∙ ap (λ xs. sum_by w xs + sum_by w (numbered given ch.adds))
    (sym (each_below-same (λ i. with_id i (ch.keep i)) (λ i. option_to_list (entry i (ch.keep i))) id_bound (λ i l. with_id-is i (ch.keep i))))

-- ---- free ids are such

not_kept : (b : Bool) (k : Option ContentValue) {h : SideState} → b ≡ true → h ≡ nothing → (if b then replacement k h else None) ≡ None → k ≡ None
not_kept b k is bare e = grind arith

-- under an id that is free after the replacements nothing is kept
pub free_not_kept : (keep : ℕ → Option ContentValue) (h : ℕ → SideState) (records : List Record) (g : ℕ) → ((i : ℕ) → h i ≡ held records i) → g < id_bound
    → first g (put_all (replaced_rows keep h) records) ≡ None → keep g ≡ None
free_not_kept keep h records g shows l none =
    let bare : h g ≡ nothing = shows g ∙ ap held_where (free_before_all (replaced_rows keep h) records g none) in
    let put = not_over (at g (replaced_rows keep h)) (held records g)
    (sym (held-put_all (replaced_rows keep h) records g (apart-rising 0 id_bound (replaced_rows keep h) (replaced_rise keep h))) ∙ ap held_where none) in
    not_kept (nat_lt g id_bound) (keep g) (grind (arith, nat_tests, l)) bare (sym (at-each_below (λ j. replacement (keep j) (h j)) id_bound g) ∙ put)

new-by : (keep : ℕ → Option ContentValue) (now : List Record) (es : List (ℕ × ContentValue))
    → ((g : ℕ) → g < id_bound → first g now ≡ None → keep g ≡ None) → AreFree es now → AreNew keep es id_bound
new-by keep now [] back free = tt
new-by keep now (e ∷ es) back free = (
  back e.0 (within e.0 free.0.bound) (place-first e.0 now free.0.none),
  (apart-free (e ∷ es) now free).0,
  within e.0 free.0.bound,
  new-by keep (put_record e.0 e.1 now) es (λ g l none. back g l (free_before e.0 e.1 now g none)) free.1,
)

pub new-free : (ch : Choice) (h : ℕ → SideState) (given : List ℕ) (records : List Record) → ((i : ℕ) → h i ≡ held records i)
    → AreFree (numbered given ch.adds) (after (replaces (replaced_rows ch.keep h)) records) → AreNew ch.keep (numbered given ch.adds) id_bound
new-free ch h given records shows free =
    new-by ch.keep (put_all (replaced_rows ch.keep h) records) (numbered given ch.adds) (λ g l none. free_not_kept ch.keep h records g shows l none)
    (subst (AreFree (numbered given ch.adds)) (after-replaces (replaced_rows ch.keep h) records) free)

-- ---- the merged records are honest against the merged base

honest_by : (zero : Bool) (k o : Option ContentValue) (r : Record) → record_held r ≡ live_or k
    → IsHonestUnder (if zero then no_base else based_two false k o) r
honest_by zero k o r is = grind arith

-- so the next session may read fast
pub honest-merged : (ch : Choice) (h : ℕ → SideState) (given : List ℕ) (records : List Record) → RowsDiffer records → AreBounded records
    → ((i : ℕ) → h i ≡ held records i) → AreFree (numbered given ch.adds) (after (replaces (replaced_rows ch.keep h)) records)
    → IsHonest (merged_base ch h given) (after (giving ch h given ++ clearing ch h) records)
honest-merged ch h given records differ bounded shows free i r e =
    grind (
      arith,
      based-merged ch h given false i,
      honest_by (i == 0) (row_under ch given i) (at i (gone_rows ch.keep h)) r (ap held_where (sym e)
          ∙ held-merged ch h given records differ bounded shows free i),
    )
