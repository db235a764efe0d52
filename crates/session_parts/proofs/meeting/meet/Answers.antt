-- A greeting, and then a list.
use Rattle.std.specs.Prelude.{List, Ok}
use Rattle.pdb_values.specs.declared.head.DbHead.{DbHead}
use Rattle.mirrors.proofs.PartFollows.{then_ends, then_goes, then_made}
use Rattle.session_parts.proofs.MeetLaws.{meets_done, meets_not, meets_unlisted}
use Rattle.session_parts.proofs.meeting.meet.Goals as goal

pub returns-in-Err : goal.returns-in-Err
returns-in-Err g c = record {
  follows = then_ends g.met.L.Link.heard_none g.met.L.Link.heard_more _ c.in-Err.ensures.follows;
  meets = meets_not c.in-Err.ensures.stops c.in-Err.ensures.greeted c.in-Err.ensures.unseated;
  last = c.in-Err.ensures.last;
}

pub returns-in-Ok-list : goal.returns-in-Ok-list
returns-in-Ok-list g c =
    let greeted = c.in-Ok.ensures in
    let list = c.in-Ok-list.ensures in
    record {
      follows = rw list.rest.0
          (then_goes g.met.L.Link.heard_none g.met.L.Link.heard_more _ greeted.follows
          (then_made g.met.L.Link.heard_none g.met.L.Link.heard_more (λ (heads : List DbHead). (c.in-Ok.linked.user, heads)) (Ok c.in-Ok-list.heads.items) list.follows));
      meets = meets_done g.met.L.Link.since_more c.in-Ok.linked greeted.stops greeted.does greeted.greeted greeted.open list.lists list.rest;
      last = tt;
    }

pub returns-in-Err-list : goal.returns-in-Err-list
returns-in-Err-list g c =
    let greeted = c.in-Ok.ensures in
    let list = c.in-Err-list.ensures in
    record {
      follows = rw (c.halt.ensures.link, c.halt.ensures.cause)
          (then_goes g.met.L.Link.heard_none g.met.L.Link.heard_more _ greeted.follows (then_ends g.met.L.Link.heard_none g.met.L.Link.heard_more _ list.follows));
      meets = meets_unlisted g.met.L.Link.since_more c.in-Ok.linked greeted.stops greeted.does greeted.greeted c.list.new.self list.lists list.cause
          list.others list.replied c.halt.ensures.link c.halt.ensures.cause;
      last = rw (c.halt.ensures.link, c.halt.ensures.cause) list.last;
    }
