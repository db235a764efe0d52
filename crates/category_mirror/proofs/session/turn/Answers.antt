-- The desktop gets what changes.
use Rattle.std.proofs.Common.{inl}
use Rattle.category_mirror.proofs.session.turn.Goals as goal

pub returns-in-Ok : goal.returns-in-Ok
returns-in-Ok g c = inl (record {
  reports = c.in-Ok.prepared.reports;
  told = c.in-Ok.ensures.reports;
  marks = rw c.in-Ok.ensures.changes at c.mark_and_commit.ensures;
})
