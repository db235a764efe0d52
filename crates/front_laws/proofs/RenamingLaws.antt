-- Which ids the adds got doesn't matter, as long as nothing had them.
use Rattle.std.proofs.lemmas.Grind.{common_steps}
use Rattle.std.proofs.Common.{◌≡◌, ℕ, ◌+◌, ◌&&◌, List, [], ◌∷◌, length, refl, ap, ◌∙◌, sym, subst, arith, true, false, Bool, not, cond, Option}
use Rattle.std.proofs.Common.{Some, None, map, if◌then◌else◌, nat_lt, option_to_list, sum_by, count_by}
use Rattle.std.proofs.lemmas.List.Sums.{sum_by-cons}
use Rattle.std.specs.Option.{option_or}
use Rattle.std.proofs.lemmas.Bool.Decides.{nat_tests}
use Rattle.pdb_values.specs.Contents.{ContentValue}
use Rattle.pdb_values.specs.declared.record.Record.{Record}
use Rattle.conduit_rules.specs.ById.{id_bound, each_id, with_id, at}
use Rattle.conduit_rules.specs.Contents.{same_content}
use Rattle.conduit_rules.specs.Plans.{kept_rows}
use Rattle.conduit_rules.specs.States.{live_of, held, held_where, first}
use Rattle.conduit_rules.specs.declared.action.Action.{Action}
use Rattle.conduit_rules.proofs.AgreedLaws.{RowsDiffer}
use Rattle.conduit_rules.proofs.BoundLaws.{live_or}
use Rattle.conduit_rules.proofs.ViewLaws.{first-id}
use Rattle.record_merge.specs.Merging.{row_at, row_under, settled_record}
use Rattle.record_merge.specs.Writes.{after, numbered, giving, clearing, whole}
use Rattle.record_merge.proofs.AfterLaws.{after-append}
use Rattle.record_merge.proofs.BoundLaws.{bounded-after}
use Rattle.record_merge.proofs.CountLaws.{sum-rows, new-free}
use Rattle.record_merge.proofs.HeldLaws.{held-merged, held-rows}
use Rattle.record_merge.proofs.PutLaws.{differ-ids}
use Rattle.record_merge.proofs.SumLaws.{sum-records, sum-same}
use Rattle.front_laws.specs.Renaming.{is_known, AreUnknown, is_new_with, SameEnds}
use Rattle.front_laws.specs.Repeats.{Finding, IsRead, ended, chosen, shown, GotIds, GotAllIds}
use Rattle.front_laws.proofs.ClearLaws.{differ-after}
use Rattle.front_laws.proofs.GivenLaws.{differ-given, clearing-given}
use Rattle.front_laws.proofs.NewsLaws.{whole-is}

-- ---- the weight of a content under ids that nothing had

abbrev weight : Finding → ContentValue → ℕ × ContentValue → ℕ
weight x c e = cond (not (is_known x e.0) && same_content e.1 c) 1 0

sum-settled : (x : Finding) (c : ContentValue) (es : List (ℕ × ContentValue))
    → count_by (is_new_with x c) (map settled_record es) ≡ sum_by (weight x c) es
sum-settled x c es = grind (arith, common_steps)

sum-unknown : (x : Finding) (c : ContentValue) (given : List ℕ) (cs : List ContentValue) → AreUnknown x given → length given ≡ length cs
    → sum_by (weight x c) (numbered given cs) ≡ sum_by (λ d. cond (same_content d c) 1 0) cs
sum-unknown x c [] [] un is = refl
sum-unknown x c [] (d ∷ cs) un is = absurd (omega (arith, is))
sum-unknown x c (g ∷ given) [] un is = absurd (omega (arith, is))
sum-unknown x c (g ∷ given) (d ∷ cs) un is =
    sum_by-cons (weight x c) (g, d) (numbered given cs)
    ∙ ap {A = Bool × ℕ} (λ p. cond (not p.0 && same_content d c) 1 0 + p.1) (λ k. (un.0 k, sum-unknown x c given cs un.1 (omega (arith, is)) k))
    ∙ sym (sum_by-cons (λ e. cond (same_content e c) 1 0) d cs)

-- the rows' count, whatever the ids
rows-count : (a : Action) (x : Finding) {given : List ℕ} (c : ContentValue) → IsRead x → GotAllIds a x given → AreUnknown x given
    → sum_by (weight x c) (each_id (λ i. with_id i (row_at (chosen a x) given i))) ≡ sum_by (weight x c) (kept_rows (chosen a x).keep) + sum_by
    (λ d. cond (same_content d c) 1 0) (chosen a x).adds
rows-count a x {given} c read all un =
    sum-rows (weight x c) (chosen a x) given (new-free (chosen a x) (shown x) given x.records read.shows all.got)
    ∙ ap (λ n. sum_by (weight x c) (kept_rows (chosen a x).keep) + n) (sum-unknown x c given (chosen a x).adds un all.each)

-- ---- a known id

unknown_at : (x : Finding) (i : ℕ) (given : List ℕ) (cs : List ContentValue) → is_known x i ≡ true → AreUnknown x given → at i (numbered given cs) ≡ None
unknown_at x i [] cs known un = refl
unknown_at x i (g ∷ given) [] known un = refl
unknown_at x i (g ∷ given) (c ∷ cs) known un = grind (arith, unknown_at x i given cs known un.1)

known-row : (a : Action) (x : Finding) (given : List ℕ) (i : ℕ) → is_known x i ≡ true → AreUnknown x given
    → row_under (chosen a x) given i ≡ (if nat_lt i id_bound then option_or ((chosen a x).keep i) None else None)
known-row a x given i known un = grind (arith, unknown_at x i given (chosen a x).adds known un)

-- ---- the handheld

record_row : (x : Finding) (c : ContentValue) (i : ℕ) (o : Option Record) (k : Option ContentValue) → ((r : Record) → o ≡ Some r → r.id ≡ i)
    → held_where o ≡ live_or k
    → sum_by (λ (r : Record). cond (is_new_with x c r) 1 0) (option_to_list o) ≡ sum_by (weight x c) (with_id i k)
record_row x c i o k bears is = grind arith

records-count : (a : Action) (x : Finding) (given : List ℕ) (c : ContentValue) → IsRead x → GotIds a x given
    → count_by (is_new_with x c) (ended a x given).records ≡ sum_by (weight x c) (each_id (λ i. with_id i (row_at (chosen a x) given i)))
records-count a x given c read got =
    let ch = chosen a x in
    let h = shown x in
    let differ = differ-ids x.records read.ids in
    let z = after (whole ch h given) x.records in
    let u : Record → ℕ = λ r. cond (is_new_with x c r) 1 0 in
    let z_differ : RowsDiffer z = subst RowsDiffer (sym (after-append (giving ch h given) (clearing ch h) x.records))
    (differ-after (row_under ch given) (clearing ch h) (after (giving ch h given) x.records)
    (clearing-given ch h given x.records read.bounded read.shows got) (differ-given ch h given x.records differ)) in
    let z_bounded = bounded-after ch h given x.records differ read.bounded got in
    ap (sum_by u) (sym (whole-is ch h given x.records differ read.bounded read.shows got))
    ∙ sum-records u z z_differ z_bounded
    ∙ sum-same u (weight x c) (λ i. option_to_list (first i z)) (λ i. with_id i (row_at ch given i)) id_bound
    (λ i l. record_row x c i (first i z) (row_at ch given i) (first-id i z) (held-merged ch h given x.records differ read.bounded read.shows got i
    ∙ ap live_or (inside (nat_lt i id_bound) (row_at ch given i) (grind (arith, nat_tests, l)))))
  where
    inside : (b : Bool) (o : Option ContentValue) → b ≡ true → (if b then o else None) ≡ o
    inside true o is = refl
    inside false o is = absurd (cc)

-- ---- both ends

pub renamed : (a : Action) (x : Finding) (given other : List ℕ) → IsRead x → GotAllIds a x given → GotAllIds a x other → AreUnknown x given
    → AreUnknown x other → SameEnds x (ended a x given) (ended a x other)
renamed a x given other read all all_too un un_too =
    let ch = chosen a x in
    let h = shown x in
    let differ = differ-ids x.records read.ids in
    let row_same : (i : ℕ) → is_known x i ≡ true → row_under ch given i ≡ row_under ch other i = λ i known. known-row a x given i known un
    ∙ sym (known-row a x other i known un_too) in
    let count_same : (c : ContentValue)
    → sum_by (weight x c) (each_id (λ i. with_id i (row_at ch given i))) ≡ sum_by (weight x c) (each_id (λ i. with_id i (row_at ch other i))) =
    λ c. rows-count a x c read all un ∙ sym (rows-count a x c read all_too un_too) in
    let held_is : (ids : List ℕ) → GotIds a x ids → (i : ℕ) → held (ended a x ids).records i ≡ live_or (row_under ch ids i) = λ ids got i.
    ap (λ rs. held rs i) (sym (whole-is ch h ids x.records differ read.bounded read.shows got))
    ∙ held-merged ch h ids x.records differ read.bounded read.shows got i in
    record {
      records = record {
        known = λ i known. ap live_of (held_is given all.got i ∙ ap live_or (row_same i known) ∙ sym (held_is other all_too.got i));
        new = λ c. records-count a x given c read all.got ∙ count_same c ∙ sym (records-count a x other c read all_too.got);
      };
      rows = record {
        known = λ i known. ap live_of (held-rows ch given i ∙ ap live_or (row_same i known) ∙ sym (held-rows ch other i));
        new = λ c. sum-settled x c (each_id (λ i. with_id i (row_at ch given i))) ∙ count_same c
            ∙ sym (sum-settled x c (each_id (λ i. with_id i (row_at ch other i))));
      };
      archive = refl;
    }
