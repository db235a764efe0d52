-- The desktop commits, and the session is ended.
use Rattle.std.proofs.Common.{Ok, Err}
use Rattle.category_mirror.proofs.session.commit.Goals as goal

pub returns-in-Ok : goal.returns-in-Ok
returns-in-Ok g c = record { answer = Ok c.in-Ok.desk; commits = c.in-Ok.ensures; goes = c.finish.ensures }

pub returns-in-Err : goal.returns-in-Err
returns-in-Err g c = record {
  answer = Err (c.in-Err.fault, c.in-Err.folder);
  commits = c.in-Err.ensures;
  goes = rw (c.link_of.ensures, c.from.ensures);
}
