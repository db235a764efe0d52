-- A database is purged, unless it is skipped.
use Rattle.std.proofs.Common.{refl}
use Rattle.std.specs.Prelude.{Ok}
use Rattle.mirrors.proofs.PartFollows.{follows_none}
use Rattle.sync_session.specs.Phases.{purges_under}
use Rattle.session_parts.proofs.SpanLaws.{span_none}
use Rattle.sync_session.proofs.purging.purge_planned.Goals as goal

pub returns-in-Some : goal.returns-in-Some
unfolding purges_under
returns-in-Some g c = record {
  spans = rw c.in-Some.is (span_none g.met.L.Link.since_itself tt);
  follows = rw c.in-Some.is (follows_none g.met.L.Link.heard_none (Ok tt) _ refl);
}

pub returns-in-None : goal.returns-in-None
unfolding purges_under
returns-in-None g c = record {
  spans = rw c.in-None.is c.purge_one.ensures.spans;
  follows = rw c.in-None.is c.purge_one.ensures.follows;
}
