-- The handheld is marked, and then the desktop commits.
use Rattle.std.proofs.Common.{Ok, Err}
use Rattle.category_mirror.proofs.session.mark_and_commit.Goals as goal

pub returns-in-Ok : goal.returns-in-Ok
returns-in-Ok g c = record {
  now = c.mark_where.new.linked;
  answer = Ok c.in-Ok.field-0;
  asks = rw c.deref.ensures.value at c.in-Ok.ensures.asks;
  cause = tt;
  goes = c.commit.ensures;
}

pub returns-in-Err : goal.returns-in-Err
returns-in-Err g c = record {
  now = c.mark_where.new.linked;
  answer = Err c.in-Err.cause;
  asks = rw c.deref.ensures.value at c.in-Err.ensures.asks;
  cause = c.in-Err.ensures.cause;
  goes = rw c.link_of.ensures at c.stopped.ensures;
}
