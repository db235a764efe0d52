-- The ids, then the changed records, then the others.
use Rattle.std.proofs.Common.{◌≡◌, ◌+◌, suc, length, arith, rules}
use Rattle.std.proofs.lemmas.Result.{err_from_is_err_and}
use Rattle.std.specs.Prelude.{None}
use Rattle.mirrors.proofs.SideLaws.{knows_all, side_asked, side_changed, side_listed, side_none, side_shown}
use Rattle.mirrors.proofs.PartFollows.{then_ends, then_goes}
use Rattle.mirrors.proofs.reading.read_fast.Goals as goal

pub returns-in_err-ids-clause-asks : goal.returns-in_err-ids-clause-asks
returns-in_err-ids-clause-asks g c =
    let p = err_from_is_err_and c.from_residual.result c.from_residual.ensures.1 in
    rw (p.1, p.2)
    (side_listed c.args.base.now c.args.db.now.handle c.args.db.now.linked.now
    c.read_ids.new.db.linked.now _ c.in_err-ids.ensures.stops c.in_err-ids.ensures.rest)

pub returns-in_err-seen-clause-asks : goal.returns-in_err-seen-clause-asks
returns-in_err-seen-clause-asks g c =
    let p = err_from_is_err_and c.from_residual-in_err-seen.result c.from_residual-in_err-seen.ensures.1 in
    let most : c.len.result + 1 ≡ suc (length c.in_ok-ids.ids.items) = search rules in
    rw (p.1, p.2)
    (side_changed g.met.L.Link.since_more c.args.base.now
    c.in_ok-ids.ids.items c.args.db.now.linked.now
    _ c.in_ok-ids.ensures.same_handle most c.in_ok-ids.ensures.stops c.in_ok-ids.ensures.does
    c.in_ok-ids.ensures.rest c.in_ok-ids.ensures.ids c.in_err-seen.ensures.asks)

pub returns-clause-asks : goal.returns-clause-asks
returns-clause-asks g c =
    let most : c.len.result + 1 ≡ suc (length c.in_ok-ids.ids.items) = search rules in
    let none : g.L.Link.fault c.read_changed.new.db.linked.now.link ≡ None = c.in_ok-seen.ensures.none (omega arith) in
    side_asked g.met.L.Link.since_more c.args.base.now c.args.db.now.handle
    (c.len.result + 1) c.in_ok-seen.seen.items
    c.in_ok-seen.ensures.same_handle c.deref.ensures.value c.in_ok-ids.ensures.stops c.in_ok-ids.ensures.does c.in_ok-ids.ensures.rest
    (side_none c.read_others.result (g.L.Link.fault c.read_others.new.db.linked.now.link)
    none c.read_others.ensures.asks.clear)
    (knows_all (g.L.Link.talk c.args.db.now.linked.now.link)
    c.in_ok-ids.ids.items c.in_ok-seen.seen.items c.in_ok-ids.ensures.same_handle most
    c.in_ok-ids.ensures.does.said c.in_ok-ids.ensures.ids c.in_ok-seen.ensures.seen)
    c.in_ok-seen.ensures.asks c.read_others.ensures.asks

pub returns-clause-view : goal.returns-clause-view
returns-clause-view g c =
    let most : c.len.result + 1 ≡ suc (length c.in_ok-ids.ids.items) = search rules in
    side_shown (λ view. view.seen.items) (g.L.Link.talk c.args.db.now.linked.now.link)
    c.args.base.now c.args.db.now.handle
    (c.len.result + 1) c.in_ok-seen.seen.items
    c.read_others.result c.in_ok-seen.ensures.same_handle c.deref.ensures.value c.in_ok-ids.ensures.does.said c.in_ok-seen.ensures.asks.does.said
    (knows_all (g.L.Link.talk c.args.db.now.linked.now.link)
    c.in_ok-ids.ids.items c.in_ok-seen.seen.items c.in_ok-ids.ensures.same_handle most
    c.in_ok-ids.ensures.does.said c.in_ok-ids.ensures.ids c.in_ok-seen.ensures.seen)
    c.read_others.ensures.view

pub returns-in_err-ids-clause-follows : goal.returns-in_err-ids-clause-follows
returns-in_err-ids-clause-follows g c =
    let p = err_from_is_err_and c.from_residual.result c.from_residual.ensures.1 in
    rw (p.1, p.2) (then_ends g.met.L.Link.heard_none g.met.L.Link.heard_more _ c.in_err-ids.ensures.follows)

pub returns-in_err-seen-clause-follows : goal.returns-in_err-seen-clause-follows
returns-in_err-seen-clause-follows g c =
    let p = err_from_is_err_and c.from_residual-in_err-seen.result c.from_residual-in_err-seen.ensures.1 in
    let most : c.len.result + 1 ≡ suc (length c.in_ok-ids.ids.items) = search rules in
    rw (p.1, p.2)
    (then_goes g.met.L.Link.heard_none g.met.L.Link.heard_more _ c.in_ok-ids.ensures.follows
    (then_ends g.met.L.Link.heard_none g.met.L.Link.heard_more _ (rw (c.in_ok-ids.ensures.same_handle, most) at c.in_err-seen.ensures.follows)))

pub returns-clause-follows : goal.returns-clause-follows
returns-clause-follows g c =
    let most : c.len.result + 1 ≡ suc (length c.in_ok-ids.ids.items) = search rules in
    then_goes g.met.L.Link.heard_none g.met.L.Link.heard_more _ c.in_ok-ids.ensures.follows
    (then_goes g.met.L.Link.heard_none g.met.L.Link.heard_more _ (rw (c.in_ok-ids.ensures.same_handle, most) at c.in_ok-seen.ensures.follows)
    (rw (c.in_ok-seen.ensures.same_handle, c.in_ok-ids.ensures.same_handle, c.deref.ensures.value) at c.read_others.ensures.follows))
