use Rattle.std.proofs.Common.{arith, ◌≡◌, ◌∙◌, ◌-◌, ap, refl}
use Rattle.category_tables.specs.Merges.{by_id, by_label, merging, rounds}
use Rattle.category_tables.specs.Tables.{table_value}
use Rattle.category_tables.proofs.RoundLaws.{rounds_more}
use Rattle.category_tables.proofs.merge_tables.joined.Goals as goal

pub loop-number-init : goal.loop-number-init
unfolding rounds
loop-number-init c = c.begin-made.ensures

pub loop-number-preserved : goal.loop-number-preserved
loop-number-preserved c =
    c.join_by_id.ensures
    ∙ rounds_more (by_id (table_value c.args.handheld.now) (table_value c.args.desktop.now)) c.loop-number.number _ _ (omega arith) c.loop-number.invariant

pub loop-number-2-init : goal.loop-number-2-init
unfolding rounds
loop-number-2-init c = refl

pub loop-number-2-preserved : goal.loop-number-2-preserved
loop-number-2-preserved c =
    c.join_by_label.ensures
    ∙ rounds_more (by_label (table_value c.args.handheld.now) (table_value c.args.desktop.now)) c.loop-number-2.number _ _ (omega arith)
    c.loop-number-2.invariant

pub returns : goal.returns
unfolding merging
returns c =
    let first : c.loop-number.number - 1 ≡ 15 = omega arith in
    let second : c.loop-number-2.number - 1 ≡ 15 = omega arith in
    let begun = rw first at c.loop-number.invariant in
    let ended = rw second at c.loop-number-2.invariant in
    ended ∙ ap (rounds (by_label (table_value c.args.handheld.now) (table_value c.args.desktop.now)) 15) begun
