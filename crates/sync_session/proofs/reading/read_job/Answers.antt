-- A database is read by its job.
use Rattle.std.proofs.Common.{[], refl}
use Rattle.std.specs.Prelude.{Ok}
use Rattle.mirrors.proofs.PartFollows.{follows_none}
use Rattle.sync_session.specs.Readings.{reads_under, shown_under}
use Rattle.session_parts.proofs.SpanLaws.{span_none}
use Rattle.sync_session.proofs.reading.read_job.Goals as goal

pub returns-in-Some : goal.returns-in-Some
unfolding reads_under shown_under
returns-in-Some g c = record {
  spans = rw c.in-Some.is (span_none g.met.L.Link.since_itself c.no_view.ensures);
  follows = rw (c.in-Some.is, c.no_view.ensures) (follows_none g.met.L.Link.heard_none (Ok []) _ refl);
}

pub returns-in-Some-handheld : goal.returns-in-Some-handheld
unfolding reads_under shown_under
returns-in-Some-handheld g c = record {
  spans = rw (c.in-None.is, c.in-Some-handheld.is) (rw c.base_rows-base.ensures at c.read_opened.ensures.spans);
  follows = rw (c.in-None.is, c.in-Some-handheld.is) (rw c.base_rows-base.ensures at c.read_opened.ensures.follows);
}

pub returns-in-None-handheld : goal.returns-in-None-handheld
unfolding reads_under shown_under
returns-in-None-handheld g c = record {
  spans = rw (c.in-None.is, c.in-None-handheld.is) (span_none g.met.L.Link.since_itself c.no_view-in-None-handheld.ensures);
  follows = rw (c.in-None.is, c.in-None-handheld.is, c.no_view-in-None-handheld.ensures) (follows_none g.met.L.Link.heard_none (Ok []) _ refl);
}
