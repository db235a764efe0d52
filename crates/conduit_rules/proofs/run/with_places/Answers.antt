use Rattle.std.proofs.Common.{arith}
use Rattle.std.proofs.lemmas.Grind.{common_steps}
use Rattle.conduit_rules.proofs.SortLaws.{placed-next}
use Rattle.conduit_rules.proofs.run.with_places.Goals as goal

pub loop-place-preserved : goal.loop-place-preserved
loop-place-preserved g c =
    let next = placed-next c.args.list.now c.loop-place.place c.index-list-place.result c.loop-place-test.true c.index-list-place.is in
    grind (arith, common_steps, c.in_ok-push.ensures.items, c.loop-place.invariant)
