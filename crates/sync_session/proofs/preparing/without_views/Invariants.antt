use Rattle.std.proofs.Common.{take}
use Rattle.std.specs.Prelude.{All}
use Rattle.sync_session.specs.Unseen.{HasNoView, SameButViews}
use Rattle.sync_session.proofs.preparing.without_views.Given as goal

abbrev pub invariant-loop-one : goal.invariant-loop-one
invariant-loop-one l = SameButViews l.initial.one-items l.one-items × All HasNoView (take l.one-index l.one-items)
