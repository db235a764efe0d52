-- A database is given its news by what each side has of it.
use Rattle.std.proofs.Common.{[], refl}
use Rattle.std.specs.Prelude.{Ok}
use Rattle.mirrors.proofs.PartFollows.{follows_none}
use Rattle.sync_session.specs.Phases.{gained, news_under}
use Rattle.session_parts.proofs.SpanLaws.{span_none}
use Rattle.sync_session.proofs.giving.give_planned.Goals as goal

pub returns-in-Some : goal.returns-in-Some
unfolding news_under gained
returns-in-Some g c = record {
  spans = rw c.in-Some.is (span_none g.met.L.Link.since_itself c.new.ensures.items);
  follows = rw (c.in-Some.is, c.new.ensures.items) (follows_none g.met.L.Link.heard_none (Ok []) _ refl);
}

pub returns-in-Some-handheld : goal.returns-in-Some-handheld
unfolding news_under gained
returns-in-Some-handheld g c = record {
  spans = rw (c.in-None.is, c.in-Some-handheld.is) c.give_old.ensures.spans;
  follows = rw (c.in-None.is, c.in-Some-handheld.is) c.give_old.ensures.follows;
}

pub returns-in-Some-rows : goal.returns-in-Some-rows
unfolding news_under gained
returns-in-Some-rows g c = record {
  spans = rw (c.in-None.is, c.in-None-handheld.is, c.in-Some-rows.is) (rw (c.made_head.ensures, c.rows-own.ensures) at c.make_one.ensures.spans);
  follows = rw (c.in-None.is, c.in-None-handheld.is, c.in-Some-rows.is) (rw (c.made_head.ensures, c.rows-own.ensures) at c.make_one.ensures.follows);
}

pub returns-in-None-rows : goal.returns-in-None-rows
unfolding news_under gained
returns-in-None-rows g c = record {
  spans = rw (c.in-None.is, c.in-None-handheld.is, c.in-None-rows.is) (span_none g.met.L.Link.since_itself c.new-in-None-rows.ensures.items);
  follows = rw (c.in-None.is, c.in-None-handheld.is, c.in-None-rows.is, c.new-in-None-rows.ensures.items)
      (follows_none g.met.L.Link.heard_none (Ok []) _ refl);
}
