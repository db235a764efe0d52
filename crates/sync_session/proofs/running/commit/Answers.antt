-- The desktop commits, and then the session is brought to its end.
use Rattle.std.proofs.Common.{Ok, Err}
use Rattle.sync_session.proofs.running.commit.Goals as goal

pub commit_all-requires : goal.commit_all-requires
commit_all-requires g c = rw c.deref.ensures.value c.requires.takes

pub returns-in-Ok : goal.returns-in-Ok
returns-in-Ok g c =
    let commits = rw (c.deref.ensures.value, c.user.ensures) at c.in-Ok.ensures.commits in
    record {
      carries = record { answer = Ok c.in-Ok.desk; commits = commits; goes = rw c.same_marks-told.ensures at c.close.ensures.closes };
      follows = record { answer = Ok c.in-Ok.desk; commits = commits; goes = rw c.same_marks-told.ensures at c.close.ensures.follows };
    }

pub returns-in-Err : goal.returns-in-Err
returns-in-Err g c =
    let commits = rw (c.deref.ensures.value, c.user.ensures) at c.in-Err.ensures.commits in
    record {
      carries = record { answer = Err (c.in-Err.fault, c.in-Err.folder); commits = commits; goes = rw (c.link_of.ensures, c.from.ensures) };
      follows = record { answer = Err (c.in-Err.fault, c.in-Err.folder); commits = commits; goes = rw (c.link_of.ensures, c.from.ensures) };
    }
