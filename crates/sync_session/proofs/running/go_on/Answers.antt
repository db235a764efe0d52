-- The slot of the handheld's user is picked, and the session goes on.
use Rattle.std.proofs.Common.{◌≡◌, ◌∙◌, ap, List, Ok, Err, length}
use Rattle.pdb_values.specs.declared.user.Marks.{Marks}
use Rattle.desk_store.specs.Desks.{place_of}
use Rattle.desk_store.specs.Views.{marks_in}
use Rattle.session_plan.specs.Users.{done_marks}
use Rattle.sync_session.specs.Courses.{done_for, picked_for, stopped}
use Rattle.sync_session.proofs.FitLaws.{prepared-few, prepared-of-session}
use Rattle.session_parts.proofs.MeetLaws.{seated_pickable}
use Rattle.sync_session.proofs.SeatLaws.{seat-picked}
use Rattle.sync_session.proofs.RepliesLaws.{went_on}
use Rattle.sync_session.proofs.running.go_on.Goals as goal

pub pick-requires : goal.pick-requires
pick-requires g c =
    let is = rw c.user.ensures at c.seat_for.ensures.slot in
    seated_pickable (length c.args.marks.now) (length c.args.desk.slots) c.seat_for.result c.requires.count c.seat_for.ensures.within
    (rw is c.requires.seated)

pub write-requires : goal.write-requires
write-requires g c =
    let prepares = rw c.deref.ensures.value at c.in-Ok.ensures.prepares in
    let found = rw c.user.ensures at c.seat_for.ensures.slot in
    let ends_so = rw (c.user-2.ensures, c.marks.ensures.marks) at c.done_marks-done.ensures in
    record {
      «open» = c.in-Ok.ensures.open;
      planned = prepared-of-session prepares;
      few = prepared-few prepares;
      number = ap (λ (m : Marks). m.pc) c.done_marks-done.ensures ∙ c.marks.ensures.number;
      seat = rw (ends_so, c.pick.ensures)
          (seat-picked c.args.desk.slots c.args.met.linked.user c.args.wishes.now c.requires.formed c.requires.room c.requires.marks c.requires.seated
          (ap (place_of (length c.args.desk.slots)) found));
    }

pub returns-in-Ok : goal.returns-in-Ok
returns-in-Ok g c =
    let picked = rw (c.seat_for.ensures.slot, c.user.ensures) at c.pick.ensures in
    let ends_so = rw (c.user-2.ensures, c.marks.ensures.marks, picked) at c.done_marks-done.ensures in
    let wishes = c.args.wishes.now in
    let user = c.args.met.linked.user in
    let desk = picked_for c.args.marks.now wishes.user user c.args.desk in
    let done : c.done_marks-done.result ≡ done_for wishes user desk
    = ends_so ∙ ap (λ (marks : List Marks). done_marks wishes.date wishes.user.name marks user (marks_in desk)) c.requires.marks in
    record {
      goes_on = record {
        now = c.prepare.new.linked;
        answer = Ok c.in-Ok.prepared;
        prepares = rw (c.deref.ensures.value, picked) at c.in-Ok.ensures.prepares;
        goes = rw (picked, done) at c.write.ensures.writes;
      };
      follows = went_on (rw (c.deref.ensures.value, picked, c.requires.marks) at c.in-Ok.ensures.follows)
          (rw (picked, done, c.requires.marks, c.in-Ok.ensures.prepares.reads.reads.user) at c.write.ensures.follows);
    }

pub returns : goal.returns
returns g c =
    let picked = rw (c.seat_for.ensures.slot, c.user.ensures) at c.pick.ensures in
    let left : c.stopped.result ≡ stopped c.prepare.new.linked.link c.args.desk.folder c.in-Err.stop = rw (c.stopped.ensures, c.link_of.ensures, picked) in
    record {
      goes_on = record {
        now = c.prepare.new.linked;
        answer = Err c.in-Err.stop;
        prepares = rw (c.deref.ensures.value, picked) at c.in-Err.ensures.prepares;
        goes = left;
      };
      follows = went_on (rw (c.deref.ensures.value, picked, c.requires.marks) at c.in-Err.ensures.follows) left;
    }
