-- A session that backs a handheld up ends.
use Rattle.std.proofs.Common.{refl}
use Rattle.std.specs.Prelude.{Err, Ok}
use Rattle.install_backup.proofs.BackLaws.{over_ends, over_leaves, unmet_ends}
use Rattle.install_backup.proofs.whole_backup.backup_session.Goals as goal

pub returns-in-Ok-clause-link : goal.returns-in-Ok-clause-link
returns-in-Ok-clause-link g c =
    over_leaves g.met.L.Link.since_more (rw (c.unclaimed.ensures, c.none.ensures) at c.in-Ok.ensures.meets) c.backup_met.ensures.went

pub returns-in-Ok-clause-ran : goal.returns-in-Ok-clause-ran
returns-in-Ok-clause-ran g c = record {
  met = Ok c.in-Ok.met;
  meets = rw (c.unclaimed.ensures, c.none.ensures) at c.in-Ok.ensures.meets;
  backs_up = c.backup_met.ensures.went;
}

pub returns-in-Ok-clause-ends : goal.returns-in-Ok-clause-ends
returns-in-Ok-clause-ends g c = λ told is rests.
    over_ends g.met.L.Link.since_itself g.met.L.Link.since_more is rests (rw (c.unclaimed.ensures, c.none.ensures) at c.in-Ok.ensures.meets)
    c.backup_met.ensures.went

pub returns-in-Err-clause-ran : goal.returns-in-Err-clause-ran
returns-in-Err-clause-ran g c = record {
  met = Err c.in-Err.field-0;
  meets = rw (c.unclaimed.ensures, c.none.ensures) at c.in-Err.ensures.meets;
  backs_up = refl;
}

pub returns-in-Err-clause-ends : goal.returns-in-Err-clause-ends
returns-in-Err-clause-ends g c = λ told is rests.
    unmet_ends g.met.L.Link.since_itself g.met.L.Link.since_more is rests (rw (c.unclaimed.ensures, c.none.ensures) at c.in-Err.ensures.meets)
    c.in-Err.ensures.last
