-- Purges, and then the end.
use Rattle.mirrors.proofs.PartFollows.{then_ends, then_goes}
use Rattle.sync_session.proofs.EndLaws.{ends_not, ends_then}
use Rattle.sync_session.proofs.ending.end_all.Goals as goal

pub returns-in-Ok : goal.returns-in-Ok
returns-in-Ok g c =
    let finish = c.finish.ensures.follows in
    record {
      ends = ends_then g.met.L.Link.since_more c.in-Ok.ensures.purges c.finish.ensures.stops c.finish.ensures.does c.finish.ensures.cause;
      follows = then_goes g.met.L.Link.heard_none g.met.L.Link.heard_more _ c.in-Ok.ensures.follows finish;
    }

pub returns-in-Err : goal.returns-in-Err
returns-in-Err g c = record {
  ends = ends_not c.in-Err.ensures.purges c.halt.ensures.link c.halt.ensures.cause;
  follows = rw (c.halt.ensures.link, c.halt.ensures.cause)
      (then_ends g.met.L.Link.heard_none g.met.L.Link.heard_more _ c.in-Err.ensures.follows);
}
