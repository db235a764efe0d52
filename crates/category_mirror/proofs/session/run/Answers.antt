-- A session from its beginning.
use Rattle.std.proofs.Common.{Ok, Err, inr, refl}
use Rattle.desktop_session.specs.declared.fault.SessionFault.TheVariants as session
use Rattle.session_parts.proofs.MeetLaws.{met_seated}
use Rattle.category_mirror.proofs.session.run.Goals as goal

pub file_met-requires-clause-seated : goal.file_met-requires-clause-seated
file_met-requires-clause-seated g c =
    rw c.deref-in-Ok-meet_over.ensures.value (rw (c.deref.ensures.value, c.none.ensures) at (met_seated _ _ _ _ _ _ _ _ c.in-Ok-meet_over.ensures.meets))

pub returns-in-Ok-meet_over : goal.returns-in-Ok-meet_over
returns-in-Ok-meet_over g c = record {
  answer = Ok c.in-Ok-meet_over.met;
  meets = rw (c.deref.ensures.value, c.none.ensures, c.in-Ok.ensures.marks) at c.in-Ok-meet_over.ensures.meets;
  last = tt;
  goes = rw (c.deref-in-Ok-meet_over.ensures.value, c.in-Ok.ensures.marks) at c.file_met.ensures;
}

pub returns-in-Ok : goal.returns-in-Ok
returns-in-Ok g c = record {
  answer = Err c.in-Err-meet_over.field-0;
  meets = rw (c.deref.ensures.value, c.none.ensures, c.in-Ok.ensures.marks) at c.in-Err-meet_over.ensures.meets;
  last = c.in-Err-meet_over.ensures.last;
  goes = c.stopped.ensures;
}

pub returns : goal.returns
returns g c = record {
  answer = Err (record { link = c.args.link; cause = session.NoMemory });
  meets = inr (refl, refl);
  last = tt;
  goes = c.stopped-in-Err.ensures;
}
