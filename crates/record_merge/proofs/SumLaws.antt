-- What is counted of records is what is counted by id.
use Rattle.std.proofs.Common.{◌≡◌, ℕ, zero, suc, ◌+◌, ◌<◌, List, [], ◌∷◌, ap, ◌∙◌, sym, arith, true, Option, Some, nat_lt, option_to_list, sum_by}
use Rattle.std.proofs.lemmas.List.Sums.{sum_by-append, sum_by-cons}
use Rattle.std.proofs.lemmas.Bool.Decides.{nat_tests}
use Rattle.pdb_values.specs.declared.record.Record.{Record}
use Rattle.conduit_rules.specs.ById.{id_bound, each_below, put}
use Rattle.conduit_rules.specs.States.{first}
use Rattle.conduit_rules.proofs.AgreedLaws.{RowsDiffer}
use Rattle.conduit_rules.proofs.ByIdLaws.{each_below-zero, each_below-suc, each_below-same, sum-each_below_put}
use Rattle.record_merge.specs.Merging.{AreBounded}

pub sum-same : {A B : Type 0} (u : A → ℕ) (w : B → ℕ) (f : ℕ → List A) (g : ℕ → List B) (n : ℕ) → ((i : ℕ) → i < n → sum_by u (f i) ≡ sum_by w (g i))
    → sum_by u (each_below f n) ≡ sum_by w (each_below g n)
sum-same u w f g zero same = ap (sum_by u) (each_below-zero f) ∙ sym (ap (sum_by w) (each_below-zero g))
sum-same u w f g (suc n) same =
    grind (
      arith,
      sum_by u,
      each_below-suc f n,
      sum_by-append u (each_below f n) (f n),
      sum-same u w f g n,
      sum_by w,
      each_below-suc g n,
      sum_by-append w (each_below g n) (g n),
    )

first_put : (r : Record) (records : List Record) (i : ℕ) → first i (r ∷ records) ≡ put (λ j. first j records) r.id (Some r) i
first_put r records i = grind arith

none_at : (n : ℕ) (u : Record → ℕ) → sum_by u (each_below (λ i. option_to_list (first i [])) n) ≡ 0
none_at zero u = ap (sum_by u) (each_below-zero (λ i. option_to_list (first i [])))
none_at (suc n) u = ap (sum_by u) (each_below-suc (λ i. option_to_list (first i [])) n)
    ∙ sum_by-append u (each_below (λ i. option_to_list (first i [])) n) [] ∙ grind (arith, none_at n u)

turned : (m n : ℕ) → m + n ≡ n + m
turned m n = omega arith

-- what is counted of records is what is counted by id
pub sum-records : (u : Record → ℕ) (records : List Record) → RowsDiffer records → AreBounded records
    → sum_by u records ≡ sum_by u (each_below (λ i. option_to_list (first i records)) id_bound)
sum-records u [] differ bounded = sym (none_at id_bound u)
sum-records u (r ∷ records) differ bounded =
    let l = within r.id id_bound bounded.0 in
    sym (ap (sum_by u) (each_below-same (λ i. option_to_list (first i (r ∷ records))) (λ i. option_to_list (put (λ j. first j records) r.id (Some r) i))
    id_bound (λ i l. ap option_to_list (first_put r records i)))
    ∙ sum-each_below_put u (λ j. first j records) r.id r id_bound differ.0 l
    ∙ more (sum-records u records differ.1 bounded.1))
  where
    more : sum_by u records ≡ sum_by u (each_below (λ i. option_to_list (first i records)) id_bound)
        → sum_by u (each_below (λ i. option_to_list (first i records)) id_bound) + u r ≡ sum_by u (r ∷ records)
    more same = ap (λ n. n + u r) (sym same) ∙ turned (sum_by u records) (u r) ∙ sym (sum_by-cons u r records)

    within : (i n : ℕ) → nat_lt i n ≡ true → i < n
    within i n is = grind (arith, nat_tests, is)
