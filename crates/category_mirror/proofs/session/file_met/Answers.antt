-- The slot of the handheld's user is picked, and the categories are brought together.
use Rattle.std.proofs.Common.{◌∙◌, ap, length, sym, Ok, Err}
use Rattle.desk_store.specs.Views.{shelves_in}
use Rattle.desktop_session.specs.declared.fault.SessionFault.TheVariants as session
use Rattle.session_parts.proofs.EachLaws.{says-length, spans_none}
use Rattle.session_parts.proofs.MeetLaws.{seated_pickable}
use Rattle.category_mirror.specs.FilingActs.{SaysFiled, files_under}
use Rattle.category_mirror.proofs.JobLaws.{names-rise}
use Rattle.category_mirror.proofs.session.file_met.Goals as goal

pub pick-requires : goal.pick-requires
pick-requires g c =
    let is = rw (c.none.ensures, c.user.ensures) at c.seat_for.ensures.slot in
    seated_pickable (length c.args.marks.now) (length c.args.desk.slots) c.seat_for.result c.requires.count c.seat_for.ensures.within
    (rw is c.requires.seated)

pub turn-requires-clause-rise : goal.turn-requires-clause-rise
turn-requires-clause-rise g c =
    rw (c.deref-in-Ok-file_all.ensures.value, c.in-Ok.ensures) (names-rise c.deref.result.now (shelves_in c.pick.new.self))

pub turn-requires-clause-count : goal.turn-requires-clause-count
turn-requires-clause-count g c =
    let files = c.in-Ok-file_all.ensures.files in
    let shelves = shelves_in c.pick.new.self in
    ap length c.deref-in-Ok-file_all-2.ensures.value
    ∙ says-length (files_under shelves) (SaysFiled shelves) (g.L.Link.talk c.args.met.linked.link) c.deref-in-Ok.result.now files.stretches
    c.in-Ok-file_all.merges.items files.said
    ∙ ap length c.deref-in-Ok.ensures.value ∙ sym (ap length c.deref-in-Ok-file_all.ensures.value)

pub returns-in-Ok-file_all : goal.returns-in-Ok-file_all
returns-in-Ok-file_all g c =
    let picked = rw (c.seat_for.ensures.slot, c.none.ensures, c.user.ensures) at c.pick.ensures in
    record {
      now = c.file_all.new.linked;
      answer = Ok c.in-Ok-file_all.merges;
      files = rw (c.deref-in-Ok.ensures.value, c.in-Ok.ensures, c.deref.ensures.value, picked) at c.in-Ok-file_all.ensures.files;
      goes = rw (c.deref-in-Ok-file_all.ensures.value, c.deref-in-Ok-file_all-2.ensures.value, c.in-Ok.ensures, c.deref.ensures.value, picked) at
          c.turn.ensures;
    }

pub returns-in-Ok : goal.returns-in-Ok
returns-in-Ok g c =
    let picked = rw (c.seat_for.ensures.slot, c.none.ensures, c.user.ensures) at c.pick.ensures in
    record {
      now = c.file_all.new.linked;
      answer = Err c.in-Err-file_all.cause;
      files = rw (c.deref-in-Ok.ensures.value, c.in-Ok.ensures, c.deref.ensures.value, picked) at c.in-Err-file_all.ensures.files;
      goes = rw (c.stopped.ensures, c.link_of.ensures, picked);
    }

pub returns : goal.returns
returns g c =
    let picked = rw (c.seat_for.ensures.slot, c.none.ensures, c.user.ensures) at c.pick.ensures in
    record {
      now = c.args.met.linked;
      answer = Err session.NoMemory;
      files = spans_none g.met.L.Link.since_itself tt;
      goes = rw (c.stopped-in-Err.ensures, c.link_of-in-Err.ensures, picked);
    }
