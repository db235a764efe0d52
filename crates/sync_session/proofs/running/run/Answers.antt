-- A session from its beginning.
use Rattle.std.proofs.Common.{Ok, Err, inr, refl}
use Rattle.desktop_session.specs.declared.fault.SessionFault.TheVariants as session
use Rattle.session_parts.proofs.MeetLaws.{met_seated}
use Rattle.sync_session.proofs.RepliesLaws.{asked_all, asked_nothing, asked_unmet}
use Rattle.sync_session.proofs.running.run.Goals as goal

pub go_on-requires-clause-seated : goal.go_on-requires-clause-seated
go_on-requires-clause-seated g c =
    rw c.deref-in-Ok-meet_over.ensures.value (rw c.deref.ensures.value at (met_seated _ _ _ _ _ _ _ _ c.in-Ok-meet_over.ensures.meets))

pub returns-in-Ok-meet_over : goal.returns-in-Ok-meet_over
returns-in-Ok-meet_over g c = record {
  runs = record {
    answer = Ok c.in-Ok-meet_over.met;
    meets = rw (c.deref.ensures.value, c.in-Ok.ensures.marks) at c.in-Ok-meet_over.ensures.meets;
    last = tt;
    goes = rw (c.deref-in-Ok-meet_over.ensures.value, c.in-Ok.ensures.marks) at c.go_on.ensures.goes_on;
  };
  follows = asked_all g.met.L.Link.heard_none g.met.L.Link.heard_more
      (rw (c.deref.ensures.value, c.in-Ok.ensures.marks) at c.in-Ok-meet_over.ensures.follows) c.go_on.ensures.follows;
}

pub returns-in-Ok : goal.returns-in-Ok
returns-in-Ok g c = record {
  runs = record {
    answer = Err c.in-Err-meet_over.field-0;
    meets = rw (c.deref.ensures.value, c.in-Ok.ensures.marks) at c.in-Err-meet_over.ensures.meets;
    last = c.in-Err-meet_over.ensures.last;
    goes = c.stopped.ensures;
  };
  follows = asked_unmet g.met.L.Link.heard_none g.met.L.Link.heard_more
      (rw (c.deref.ensures.value, c.in-Ok.ensures.marks) at c.in-Err-meet_over.ensures.follows) c.stopped.ensures;
}

pub returns : goal.returns
returns g c = record {
  runs = record {
    answer = Err (record { link = c.args.link; cause = session.NoMemory });
    meets = inr (refl, refl);
    last = tt;
    goes = c.stopped-in-Err.ensures;
  };
  follows = asked_nothing g.met.L.Link.heard_none c.stopped-in-Err.ensures;
}
