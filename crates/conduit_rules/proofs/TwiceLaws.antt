-- Records that both sides changed: there are no more of them than rows that both sides keep.
use Rattle.std.proofs.lemmas.Grind.{common_steps}
use Rattle.std.proofs.lemmas.Bool.Decides.{nat_tests}
use Rattle.std.proofs.Common.{◌≤◌, ℕ, zero, suc, Bool, length, length-append, ap, ◌∙◌, arith, List, option_to_list}
use Rattle.pdb_values.specs.Contents.{ContentValue}
use Rattle.conduit_rules.specs.ById.{each_below, id_bound, with_id}
use Rattle.conduit_rules.specs.Choices.{Sides, choice_for, fate_for, kept_twice}
use Rattle.conduit_rules.specs.Fates.{cell, fate_under, gone_cell}
use Rattle.conduit_rules.specs.Plans.{kept_rows}
use Rattle.conduit_rules.specs.States.{BaseState, SideState, gone, no_base, row}
use Rattle.conduit_rules.specs.declared.action.Action.{Action}
use Rattle.conduit_rules.specs.declared.action.Action.TheVariants.{Sync, Handheld, Desktop, Both}
use Rattle.conduit_rules.proofs.ByIdLaws.{each_below-suc, each_below-zero}

-- a list by id is no longer than one that is so under each id
pub length-each_below : {A B : Type 0} (f : ℕ → List A) (g : ℕ → List B) (n : ℕ)
    → ((i : ℕ) → length (f i) ≤ length (g i)) → length (each_below f n) ≤ length (each_below g n)
length-each_below f g zero each = grind (arith, common_steps, each_below-zero f, each_below-zero g)
length-each_below f g (suc n) each =
    let below = length-each_below f g n each in
    let one = ap length (each_below-suc f n) ∙ length-append (each_below f n) (f n) in
    let two = ap length (each_below-suc g n) ∙ length-append (each_below g n) (g n) in
    let last = each n in
    omega (arith, below, one, two, last)

cell_news : (i : ℕ) (b : ContentValue) (h d : SideState) → length (option_to_list (cell b h d).news) ≤ length (with_id i (cell b h d).keep)
cell_news i b h d = grind (arith, common_steps, nat_tests)

gone_news : (i : ℕ) (b : ContentValue) (h : SideState) → length (option_to_list (gone_cell b h).news) ≤ length (with_id i (gone_cell b h).keep)
gone_news i b h = grind (arith, common_steps, nat_tests)

news_few : (a : Action) (b : BaseState) (h d : SideState) (i : ℕ)
    → length (option_to_list (fate_under a b h d).news) ≤ length (with_id i (fate_under a b h d).keep)
news_few Sync (row b) h d i = cell_news i b h d
news_few Sync (gone b) h d i = gone_news i b h
news_few Sync no_base h d i = omega arith
news_few Handheld b h d i = omega arith
news_few Desktop (row b) h d i = omega arith
news_few Desktop (gone b) h d i = omega arith
news_few Desktop no_base h d i = omega arith
news_few Both b h d i = omega arith

-- each of them keeps its row
pub length-kept_twice : (a : Action) (s : Sides) → length (kept_twice a s) ≤ length (kept_rows (choice_for a s).keep)
length-kept_twice a s =
    length-each_below (λ i. option_to_list (fate_for a s i).news) (λ i. with_id i (fate_for a s i).keep) id_bound
    (λ i. news_few a (s.base i) (s.handheld i) (s.desktop i) i)
