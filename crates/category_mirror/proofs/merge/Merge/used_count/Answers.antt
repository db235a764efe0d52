-- One category more is counted where it is used.
use Rattle.std.proofs.Common.{◌≡◌, ◌∙◌, ◌+◌, arith, ap, refl, sym, true, false}
use Rattle.category_tables.specs.Tables.{is_used}
use Rattle.category_mirror.specs.Refiled.{used_below}
use Rattle.category_mirror.proofs.CountLaws.{used-next}
use Rattle.category_mirror.proofs.merge.Merge.used_count.Goals as goal
use Rattle.category_mirror.proofs.merge.Merge.used_count.Goals.{then-is_used, else-is_used}

pub loop-number-init : goal.loop-number-init
unfolding used_below
loop-number-init c = record { count = refl; few = omega arith }

pub loop-number-preserved : goal.loop-number-preserved
loop-number-preserved c =
    let is : c.is_used.result ≡ is_used c.args.self.now.table.entries c.loop-number.number = rw (← c.self.view_is) c.is_used.ensures in
    elim c.if-is_used.branch [
      | then-is_used w ↦ record {
        count = w.count-is ∙ ap (λ n. n + 1) c.loop-number.invariant.count
            ∙ sym (used-next c.args.self.now.table c.loop-number.number true (sym is ∙ w.if-is_used.true));
        few = omega (arith, w.count-is, c.loop-number.invariant.few);
      }
      | else-is_used w ↦ record {
        count = w.count-is ∙ c.loop-number.invariant.count
            ∙ sym (used-next c.args.self.now.table c.loop-number.number false (sym is ∙ w.if-is_used.false));
        few = omega (arith, w.count-is, c.loop-number.invariant.few);
      }
    ]
