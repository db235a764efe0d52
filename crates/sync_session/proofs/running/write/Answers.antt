-- The handheld gets what is planned, and then the desktop.
use Rattle.std.proofs.Common.{[], ◌∷◌, Ok, Err}
use Rattle.desktop_session.specs.Requests.{marking}
use Rattle.desktop_session.specs.Says.{saying}
use Rattle.session_plan.specs.Users.{begun_user}
use Rattle.session_plan.proofs.FitLaws.{session-rises}
use Rattle.sync_session.proofs.FitLaws.{session-takes}
use Rattle.sync_session.proofs.ViewLaws.{length-unskipped_same, of_session-same, writes-same}
use Rattle.session_plan.specs.Takes.{each_of}
use Rattle.sync_session.specs.ByReplies.{work_of}
use Rattle.sync_session.proofs.RepliesLaws.{sent-same}
use Rattle.sync_session.proofs.running.write.Goals as goal

pub commit-requires-clause-takes : goal.commit-requires-clause-takes
commit-requires-clause-takes g c =
    let of = of_session-same c.without_views.ensures.same c.requires.planned in
    let sends = rw c.deref.ensures.value at c.in-Ok.ensures.sends in
    rw c.deref-in-Ok.ensures.value (record {
      each = session-takes c.args.done.last (saying (marking (begun_user c.args.linked.user) 0x40 ∷ []) (g.L.Link.talk c.args.linked.link))
          sends.stretches c.in-Ok.ids.items of sends.said;
      rise = session-rises of;
      few = rw (length-unskipped_same c.without_views.ensures.same) c.requires.few;
      number = c.requires.number;
      seat = c.requires.seat;
    })

pub returns-in-Ok : goal.returns-in-Ok
returns-in-Ok g c = record {
  writes = writes-same c.args.prepared c.without_views.result c.without_views.ensures.same (record {
    now = c.send_all.new.linked;
    answer = Ok c.in-Ok.ids;
    sends = rw c.deref.ensures.value at c.in-Ok.ensures.sends;
    goes = rw c.deref-in-Ok.ensures.value at c.commit.ensures.carries;
  });
  follows = sent-same c.without_views.ensures.same (work_of c.args.linked.user c.args.done c.args.prepared) (record {
    now = c.send_all.new.linked.link;
    answer = Ok (each_of c.in-Ok.ids.items);
    follows = rw c.deref.ensures.value at c.in-Ok.ensures.follows;
    goes = rw (c.deref-in-Ok.ensures.value, c.in-Ok.ensures.sends.user) at c.commit.ensures.follows;
  });
}

pub returns-in-Err : goal.returns-in-Err
returns-in-Err g c = record {
  writes = writes-same c.args.prepared c.without_views.result c.without_views.ensures.same (record {
    now = c.send_all.new.linked;
    answer = Err c.in-Err.cause;
    sends = rw c.deref.ensures.value at c.in-Err.ensures.sends;
    goes = rw (c.stopped.ensures, c.link_of.ensures);
  });
  follows = sent-same c.without_views.ensures.same (work_of c.args.linked.user c.args.done c.args.prepared) (record {
    now = c.send_all.new.linked.link;
    answer = Err c.in-Err.cause;
    follows = rw c.deref.ensures.value at c.in-Err.ensures.follows;
    goes = rw (c.stopped.ensures, c.link_of.ensures);
  });
}
