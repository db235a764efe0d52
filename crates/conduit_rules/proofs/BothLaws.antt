-- What a database gets that goes by both sides as if they had never met.
use Rattle.std.proofs.Common.{◌≡◌, ℕ, zero, suc, ◌+◌, Bool, List, [], ◌∷◌, ◌++◌, refl, ap, ◌∙◌, sym, arith, false, Option, Some, None, map, max, option_to_list, append-nil}
use Rattle.std.proofs.lemmas.Bool.Decides.{nat_tests}
use Rattle.std.proofs.lemmas.List.{map-append}
use Rattle.pdb_values.specs.Contents.{ContentValue}
use Rattle.pdb_values.specs.declared.record.Record.{Record}
use Rattle.conduit_rules.specs.ById.{id_bound, each_below, each_id, with_id}
use Rattle.conduit_rules.specs.Choices.{Sides, choice, choice_for, contents_of, fate_for, live_held, offers_for, sides_of, without_base}
use Rattle.conduit_rules.specs.Contents.{count_of}
use Rattle.conduit_rules.specs.News.{archived_records, live_contents, loose, unpaired}
use Rattle.conduit_rules.specs.Plans.{kept_rows}
use Rattle.conduit_rules.specs.States.{archived_of, base_at, has_row, held, is_row, live_of, no_base}
use Rattle.conduit_rules.specs.Views.{view_held}
use Rattle.conduit_rules.specs.declared.action.Action.TheVariants.{Both}
use Rattle.conduit_rules.specs.declared.view.Seen.{Seen}
use Rattle.conduit_rules.proofs.ActionLaws.{put_away_one}
use Rattle.conduit_rules.proofs.ByIdLaws.{each_below-none, each_below-same, each_below-suc, each_below-zero}
use Rattle.conduit_rules.proofs.LooseLaws.{loose-all}
use Rattle.conduit_rules.proofs.PairingLaws.{greater_kept}

pub both-is : (s : Sides) → choice_for Both s ≡ choice (without_base s)
both-is s = refl

pub none_based : (gone_counts : Bool) (i : ℕ) → base_at [] gone_counts i ≡ no_base
none_based gone_counts i = grind (arith, nat_tests)

all_loose : (rows : List Record) → loose (has_row []) rows ≡ rows
all_loose rows = ap {A = ℕ → Bool} (λ based. loose based rows) (λ k. λ i. is_row (none_based false i k)) ∙ loose-all rows

-- a base without a row
pub without_base-is : (v : List Seen) (rows base : List Record) (gone_counts : Bool)
    → without_base (sides_of v rows base gone_counts) ≡ sides_of v rows [] gone_counts
without_base-is v rows base gone_counts =
    λ k. record {
      base = λ i. sym (none_based gone_counts i) k;
      handheld = view_held v;
      desktop = held rows;
      loose_live = live_contents (sym (all_loose rows) k);
      loose_archived = archived_records (sym (all_loose rows) k);
      all_live = live_contents rows;
      all_archived = archived_records rows;
    }

-- what it archives: the archived rows, then what the handheld has archived
pub both-archive : (s : Sides)
    → (choice_for Both s).archive ≡ map (λ c. (0, c)) s.all_archived ++ each_id (λ i. with_id i (archived_of (s.handheld i)))
both-archive s =
    ap (λ es. map (λ c. (0, c)) s.all_archived ++ es)
    (each_below-same (λ i. map (λ c. (i, c)) (fate_for Both s i).archive) (λ i. with_id i (archived_of (s.handheld i))) id_bound
    (λ i l. put_away_one i (archived_of (s.handheld i))))

both-offers : (s : Sides) → offers_for Both s ≡ s.all_live
both-offers s =
    ap (λ xs. s.all_live ++ xs) (each_below-none (λ i. option_to_list (fate_for Both s i).news) id_bound (λ i. refl)) ∙ append-nil s.all_live

-- what it adds: the live rows that find no partner among the live records
pub both-adds : (s : Sides) → (choice_for Both s).adds ≡ unpaired (λ c. count_of c (live_held s)) s.all_live
both-adds s = ap (unpaired (λ c. count_of c (live_held s))) (both-offers s)

contents_one : (i : ℕ) (o : Option ContentValue) → contents_of (with_id i o) ≡ option_to_list o
contents_one i None = refl
contents_one i (Some c) = refl

pub contents_below : (keep : ℕ → Option ContentValue) (n : ℕ)
    → contents_of (each_below (λ i. with_id i (keep i)) n) ≡ each_below (λ i. option_to_list (keep i)) n
contents_below keep zero = ap contents_of (each_below-zero (λ i. with_id i (keep i))) ∙ sym (each_below-zero (λ i. option_to_list (keep i)))
contents_below keep (suc n) =
    ap contents_of (each_below-suc (λ i. with_id i (keep i)) n)
    ∙ map-append (λ (row : ℕ × ContentValue). row.1) (each_below (λ i. with_id i (keep i)) n) (with_id n (keep n))
    ∙ (λ k. contents_below keep n k ++ contents_one n (keep n) k)
    ∙ sym (each_below-suc (λ i. option_to_list (keep i)) n)

-- each content is live as often as on the side that has it more often
pub both-counted : (s : Sides) (c : ContentValue)
    → count_of c (contents_of (kept_rows (choice_for Both s).keep)) + count_of c (choice_for Both s).adds ≡ max (count_of c (live_held s)) (count_of c s.all_live)
both-counted s c =
    let kept = ap (count_of c) (contents_below (λ i. live_of (s.handheld i)) id_bound) in
    let adds = ap (count_of c) (both-adds s) in
    let greater = greater_kept c (live_held s) s.all_live in
    omega (arith, kept, adds, greater)
