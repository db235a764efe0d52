-- A database that was merged is settled: the next session chooses the same rows, and archives and adds nothing.
use Rattle.std.proofs.Common.{◌≡◌, ⊎_elim, ℕ, ◌==◌, List, [], ◌∷◌, refl, ap, ◌∙◌, sym, arith, true, false, Bool, Option, Some, None, is_some, map}
use Rattle.std.proofs.Common.{if◌then◌else◌}
use Rattle.std.specs.Option.{option_or, option_map}
use Rattle.std.proofs.lemmas.Bool.Decides.{nat_tests}
use Rattle.std.proofs.lemmas.List.Folds.{find-append}
use Rattle.pdb_values.specs.Contents.{ContentValue}
use Rattle.pdb_values.specs.declared.record.Record.{Record}
use Rattle.palm_device.specs.Soundness.{ids_of, AreIds}
use Rattle.conduit_rules.specs.ById.{id_bound, each_id, with_id, at}
use Rattle.conduit_rules.specs.News.{loose}
use Rattle.conduit_rules.specs.States.{SideState, BaseState, no_base, row, gone, is_row, first, base_at, based_where, has_row}
use Rattle.conduit_rules.specs.Choices.{Choice}
use Rattle.conduit_rules.specs.Plans.{gone_rows}
use Rattle.conduit_rules.proofs.AgreedLaws.{IsIn, RowsDiffer, loose-none}
use Rattle.conduit_rules.proofs.PlanLaws.{kept_rise, at-each_below}
use Rattle.conduit_rules.proofs.SettledLaws.{IsSettled}
use Rattle.record_merge.specs.Merging.{row_at, settled_record, gone_record, merged_rows, merged_base, row_under}
use Rattle.record_merge.proofs.PutLaws.{Apart}
use Rattle.record_merge.proofs.AfterLaws.{apart-rising}
use Rattle.conduit_rules.proofs.BoundLaws.{live_or}

first-settled : (es : List (ℕ × ContentValue)) (i : ℕ) → first i (map settled_record es) ≡ option_map (λ c. settled_record (i, c)) (at i es)
first-settled [] i = refl
first-settled (e ∷ es) i = grind (arith, nat_tests, first-settled es i)

first-gone : (es : List (ℕ × ContentValue)) (i : ℕ) → first i (map gone_record es) ≡ option_map (λ c. gone_record (i, c)) (at i es)
first-gone [] i = refl
first-gone (e ∷ es) i = grind (arith, nat_tests, first-gone es i)

-- what the base has by a row and a gone row
abbrev pub based_two : Bool → Option ContentValue → Option ContentValue → BaseState
based_two gone_counts (Some c) o = row c
based_two gone_counts None None = no_base
based_two gone_counts None (Some c) = if gone_counts then gone c else no_base

two : (g : Bool) (i : ℕ) (k o : Option ContentValue)
    → based_where g (option_or (option_map (λ c. settled_record (i, c)) k) (option_map (λ c. gone_record (i, c)) o)) ≡ based_two g k o
two g i k o = grind arith

pub based-merged : (ch : Choice) (h : ℕ → SideState) (given : List ℕ) (g : Bool) (i : ℕ)
    → base_at (merged_base ch h given) g i ≡ (if i == 0 then no_base else based_two g (row_under ch given i) (at i (gone_rows ch.keep h)))
based-merged ch h given g i = ap (λ b. if i == 0 then no_base else b)
    (ap (based_where g) (find-append (λ (r : Record). r.id == i) (merged_rows ch given) (map gone_record (gone_rows ch.keep h))
    ∙ ap {A = Option Record × Option Record} (λ p. option_or p.0 p.1)
    (λ k. (
      (first-settled (each_id (λ j. with_id j (row_at ch given j))) i
          ∙ ap (option_map (λ c. settled_record (i, c))) (at-each_below (row_at ch given) id_bound i)) k,
      first-gone (gone_rows ch.keep h) i k,
    )))
    ∙ two g i (row_under ch given i) (at i (gone_rows ch.keep h)))

pub settled_by : (zero : Bool) (g : Bool) (k o : Option ContentValue) {h d : SideState} → (zero ≡ true → k ≡ None) → h ≡ live_or k → d ≡ live_or k
    → IsSettled k (if zero then no_base else based_two g k o) h d
settled_by zero g k o none is_h is_d = grind arith

-- ---- no row is without a base row

differ-settled : (es : List (ℕ × ContentValue)) → Apart es → RowsDiffer (map settled_record es)
differ-settled [] apart = tt
differ-settled (e ∷ es) apart = grind (arith, first-settled es e.0, differ-settled es apart.1)

in-at : (es : List (ℕ × ContentValue)) (r : Record) → IsIn r (map settled_record es) → is_some (at r.id es) ≡ true
in-at [] r is = absurd is
in-at (e ∷ es) r is = ⊎_elim (λ (here : settled_record e ≡ r). let same : e.0 ≡ r.id = ap (λ (x : Record). x.id) here in grind (arith, nat_tests, same))
    (λ (later : IsIn r (map settled_record es)). grind (arith, nat_tests, in-at es r later)) is

row_by : (zero : Bool) (k o : Option ContentValue) → (zero ≡ true → k ≡ None) → is_some k ≡ true
    → is_row (if zero then no_base else based_two false k o) ≡ true
row_by zero k o none some = grind arith

pub at_zero : (ch : Choice) (given : List ℕ) (i : ℕ) → row_under ch given 0 ≡ None → (i == 0) ≡ true → row_under ch given i ≡ None
at_zero ch given i none is = let same : i ≡ 0 = grind (arith, nat_tests, is) in ap (row_under ch given) same ∙ none

pub none_loose : (ch : Choice) (h : ℕ → SideState) (given : List ℕ) → row_under ch given 0 ≡ None
    → loose (has_row (merged_base ch h given)) (merged_rows ch given) ≡ []
none_loose ch h given none =
    let rows = each_id (λ j. with_id j (row_at ch given j)) in
    loose-none (has_row (merged_base ch h given)) (merged_rows ch given) (differ-settled rows (apart-rising 0 id_bound rows (kept_rise (row_at ch given))))
    (λ r is. ap is_row (based-merged ch h given false r.id)
    ∙ row_by (r.id == 0) (row_under ch given r.id) (at r.id (gone_rows ch.keep h)) (at_zero ch given r.id none)
    (ap is_some (sym (at-each_below (row_at ch given) id_bound r.id)) ∙ in-at rows r is))

-- ---- the whole

-- ---- no row under id 0

pub first-zero : (records : List Record) → AreIds (ids_of records) → first 0 records ≡ None
first-zero [] ids = refl
first-zero (r ∷ records) ids = grind (arith, nat_tests, ids.0, first-zero records ids.2)
