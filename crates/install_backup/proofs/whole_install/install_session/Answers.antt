-- A session that installs databases ends.
use Rattle.install_backup.proofs.EndLaws.{greeted_ends, ungreeted_ends}
use Rattle.install_backup.proofs.whole_install.install_session.Goals as goal

pub returns-in-Ok-clause-ends : goal.returns-in-Ok-clause-ends
returns-in-Ok-clause-ends g c = λ told is rests bounded.
    greeted_ends g.met.L.Link.since_more c.args.mark is rests bounded (c.in-Ok.ensures.stops told is rests) (c.in-Ok.ensures.does told is rests)
    c.install_greeted.ensures

pub returns-in-Err-clause-ends : goal.returns-in-Err-clause-ends
returns-in-Err-clause-ends g c = λ told is rests bounded.
    rw c.stopped.ensures (ungreeted_ends g.met.L.Link.since_more c.args.mark is rests bounded (c.in-Err.ensures.stops told is rests)
    c.in-Err.ensures.cause c.in-Err.ensures.others)
