-- One database is installed after another.
use Rattle.std.proofs.lemmas.Result.{err_from_is_err_and}
use Rattle.mirrors.proofs.NewsLaws.{split_at}
use Rattle.session_parts.proofs.EachLaws.{each_lost, each_none, each_on, each_stopped}
use Rattle.install_backup.proofs.ManyLaws.{limit_at, within_at, within_past}
use Rattle.install_backup.proofs.many.install_all.Goals as goal

pub loop-database-init : goal.loop-database-init
loop-database-init g c = rw c.new-moved.ensures.items (each_none g.met.L.Link.since_itself)

pub loop-database-preserved : goal.loop-database-preserved
loop-database-preserved g c =
    let split = split_at c.args.databases.now c.loop-database.database-index c.database-item.result c.loop-database-test.true c.database-item.is in
    rw c.in_ok-push_moved.ensures.moved (each_on split g.met.L.Link.since_more c.loop-database.invariant c.in_ok-one.ensures.spans)

pub returns-in_err-one-clause-installs : goal.returns-in_err-one-clause-installs
returns-in_err-one-clause-installs g c =
    let p = err_from_is_err_and c.from_residual.result c.from_residual.ensures.1 in
    let split = split_at c.args.databases.now c.loop-database.database-index c.database-item.result c.loop-database-test.true c.database-item.is in
    rw (p.1, p.2) (each_stopped split g.met.L.Link.since_more c.loop-database.invariant c.in_err-one.ensures.spans)

pub returns-in_err-one-clause-full : goal.returns-in_err-one-clause-full
returns-in_err-one-clause-full g c =
    let p = err_from_is_err_and c.from_residual.result c.from_residual.ensures.1 in
    let split = split_at c.args.databases.now c.loop-database.database-index c.database-item.result c.loop-database-test.true c.database-item.is in
    rw (p.1, p.2) (limit_at _ _ split c.loop-database.invariant c.in_err-one.ensures.writable c.in_err-one.ensures.full)

pub returns-in_err-push_moved-clause-installs : goal.returns-in_err-push_moved-clause-installs
returns-in_err-push_moved-clause-installs g c =
    let p = err_from_is_err_and c.from_residual-in_err-push_moved.result c.from_residual-in_err-push_moved.ensures.1 in
    let split = split_at c.args.databases.now c.loop-database.database-index c.database-item.result c.loop-database-test.true c.database-item.is in
    rw (p.1, p.2) (rw c.in_err-push_moved.ensures.memory (each_lost split
    (each_on split g.met.L.Link.since_more c.loop-database.invariant c.in_ok-one.ensures.spans) tt))

pub returns-in_err-push_moved-clause-full : goal.returns-in_err-push_moved-clause-full
returns-in_err-push_moved-clause-full g c =
    let p = err_from_is_err_and c.from_residual-in_err-push_moved.result c.from_residual-in_err-push_moved.ensures.1 in
    rw (p.1, p.2) (rw c.in_err-push_moved.ensures.memory tt)

pub returns-in_err-one-clause-within : goal.returns-in_err-one-clause-within
returns-in_err-one-clause-within g c =
    let p = err_from_is_err_and c.from_residual.result c.from_residual.ensures.1 in
    let split = split_at c.args.databases.now c.loop-database.database-index c.database-item.result c.loop-database-test.true c.database-item.is in
    rw p.1 (within_at split c.loop-database.invariant c.in_err-one.ensures.spans c.in_err-one.ensures.within)

pub returns-in_err-push_moved-clause-within : goal.returns-in_err-push_moved-clause-within
returns-in_err-push_moved-clause-within g c =
    let p = err_from_is_err_and c.from_residual-in_err-push_moved.result c.from_residual-in_err-push_moved.ensures.1 in
    let split = split_at c.args.databases.now c.loop-database.database-index c.database-item.result c.loop-database-test.true c.database-item.is in
    rw p.1 (within_past split c.loop-database.invariant c.in_ok-one.ensures.spans)
