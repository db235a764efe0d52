-- Entries in rising ids, each filled, are what is read and shown by the ids.
use Rattle.std.proofs.lemmas.Result.{err_from_is_err_and}
use Rattle.mirrors.proofs.RisingLaws.{rises_too}
use Rattle.mirrors.proofs.WholeLaws.{none_asked, others_asked, others_shown}
use Rattle.mirrors.proofs.PartFollows.{lost_first}
use Rattle.mirrors.proofs.reading.read_others.Goals as goal

pub returns-in_err-add_shells-clause-asks : goal.returns-in_err-add_shells-clause-asks
returns-in_err-add_shells-clause-asks g c =
    let p = err_from_is_err_and c.from_residual.result c.from_residual.ensures.1 in
    rw (p.1, p.2)
    (none_asked g.L.Link.talk g.L.Link.fault g.L.Link.downs g.met.L.Link.since_itself _ c.args.db.now.linked.now _)

pub returns-in_err-places-clause-asks : goal.returns-in_err-places-clause-asks
returns-in_err-places-clause-asks g c =
    let p = err_from_is_err_and c.from_residual-in_err-places.result c.from_residual-in_err-places.ensures.1 in
    rw (p.1, p.2)
    (none_asked g.L.Link.talk g.L.Link.fault g.L.Link.downs g.met.L.Link.since_itself _ c.args.db.now.linked.now _)

pub returns-in_err-view-clause-asks : goal.returns-in_err-view-clause-asks
returns-in_err-view-clause-asks g c =
    let p = err_from_is_err_and c.from_residual-in_err-view.result c.from_residual-in_err-view.ensures.1 in
    rw (p.1, p.2)
    (none_asked g.L.Link.talk g.L.Link.fault g.L.Link.downs g.met.L.Link.since_itself _ c.args.db.now.linked.now _)

pub returns-clause-asks : goal.returns-clause-asks
returns-clause-asks g c =
    others_asked c.args.base.now c.args.db.now.handle c.args.ids.now c.args.seen.items
    c.requires.read c.in_ok-add_shells.ensures.seen c.in_ok-view.ensures.ordered c.fill_all.ensures.asks

pub returns-clause-view : goal.returns-clause-view
returns-clause-view g c =
    others_shown (λ view. view.seen.items) (g.L.Link.talk c.args.db.now.linked.now.link) c.args.base.now c.args.db.now.handle c.args.ids.now
    c.args.seen.items c.fill_all.result c.requires.read
    c.in_ok-add_shells.ensures.seen c.in_ok-view.ensures.ordered c.fill_all.ensures.seen

pub returns-clause-rising : goal.returns-clause-rising
returns-clause-rising g c =
    rises_too (λ view. view.seen.items) c.fill_all.result c.add_shells.new.seen.items c.in_ok-view.ensures.ordered
    c.fill_all.ensures.fills

pub returns-in_err-add_shells-clause-follows : goal.returns-in_err-add_shells-clause-follows
returns-in_err-add_shells-clause-follows g c =
    let p = err_from_is_err_and c.from_residual.result c.from_residual.ensures.1 in
    rw (p.1, p.2, c.in_err-add_shells.ensures.memory) (lost_first g.met.L.Link.heard_none _ _)

pub returns-in_err-places-clause-follows : goal.returns-in_err-places-clause-follows
returns-in_err-places-clause-follows g c =
    let p = err_from_is_err_and c.from_residual-in_err-places.result c.from_residual-in_err-places.ensures.1 in
    rw (p.1, p.2) (lost_first g.met.L.Link.heard_none _ _)

pub returns-in_err-view-clause-follows : goal.returns-in_err-view-clause-follows
returns-in_err-view-clause-follows g c =
    let p = err_from_is_err_and c.from_residual-in_err-view.result c.from_residual-in_err-view.ensures.1 in
    rw (p.1, p.2) (lost_first g.met.L.Link.heard_none _ _)

pub returns-clause-follows : goal.returns-clause-follows
returns-clause-follows g c =
    rw (c.in_ok-view.ensures.ordered, c.in_ok-add_shells.ensures.seen) at c.fill_all.ensures.follows
