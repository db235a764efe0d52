-- Each label goes to its number, one after the other.
use Rattle.std.proofs.Common.{arith, ◌≡◌, ◌∙◌, ◌-◌, subst, sym}
use Rattle.category_tables.specs.Likes.{AreSmall, by_like, liking as liking_of}
use Rattle.category_tables.specs.Merges.{MergingValue, rounds}
use Rattle.category_tables.specs.Tables.{table_value}
use Rattle.category_tables.proofs.LikeLaws.{liking_whole}
use Rattle.category_tables.proofs.RoundLaws.{rounds_more}
use Rattle.category_tables.proofs.liking.liking.Goals as goal

pub loop-number-init : goal.loop-number-init
unfolding rounds
loop-number-init c = c.begin-merging.ensures

pub loop-number-preserved : goal.loop-number-preserved
loop-number-preserved c =
    c.join_like.ensures ∙ rounds_more (by_like (table_value c.args.made.now)) c.loop-number.number _ _ (omega arith) c.loop-number.invariant

pub returns-clause-merging : goal.returns-clause-merging
unfolding liking_of
returns-clause-merging c =
    let last : c.loop-number.number - 1 ≡ 15 = omega arith in
    rw last at c.loop-number.invariant

pub returns-clause-small : goal.returns-clause-small
unfolding liking_of
returns-clause-small c =
    let last : c.loop-number.number - 1 ≡ 15 = omega arith in
    let is = rw last at c.loop-number.invariant in
    subst (λ (m : MergingValue). AreSmall m.places) (sym is) (liking_whole (table_value c.args.other.now) (table_value c.args.made.now)).small
