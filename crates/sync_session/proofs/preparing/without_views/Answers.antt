-- Each iteration lets go of one view.
use Rattle.std.proofs.Common.{arith}
use Rattle.sync_session.proofs.ViewLaws.{same-next, views-next}
use Rattle.sync_session.proofs.preparing.without_views.Goals as goal

pub loop-one-preserved : goal.loop-one-preserved
loop-one-preserved c = (
  same-next c.loop-one.one-index c.one-item.result c.no_view.result c.loop-one.invariant.0,
  views-next c.loop-one.one-items c.loop-one.one-index _ (omega arith) c.no_view.ensures c.loop-one.invariant.1,
)
