-- The app block, and then the sort block.
use Rattle.std.proofs.lemmas.Result.{err_from_is_err_and}
use Rattle.std.proofs.Common.{refl}
use Rattle.desktop_session.specs.Inquiries.{◌>>=◌}
use Rattle.desktop_session.specs.Requests.{writing_app, writing_sort}
use Rattle.mirrors.proofs.AskLaws.{all_said, asks_part, asks_then}
use Rattle.mirrors.proofs.PartFollows.{follows_none, then_ends, then_goes}
use Rattle.session_plan.specs.Blocks.{block_with_bytes}
use Rattle.sync_session.specs.News.{block_act, block_acts}
use Rattle.sync_session.proofs.BlockLaws.{asks_none}
use Rattle.sync_session.proofs.blocks.write_blocks.Goals as goal

pub returns-in_default-clause-asks : goal.returns-in_default-clause-asks
unfolding block_acts
returns-in_default-clause-asks g c = rw c.in_default.is (asks_none g.met.L.Link.since_itself c.args.db.now.linked.now tt)

pub returns-in_err-write_app-clause-asks : goal.returns-in_err-write_app-clause-asks
unfolding block_acts
returns-in_err-write_app-clause-asks g c =
    let p = err_from_is_err_and c.from_residual.result c.from_residual.ensures.1 in
    let handle = c.args.db.now.handle in
    let rows = c.in-Some.rows.now in
    rw (c.in-Some.is, p.1, p.2)
    (asks_part g.L.Link.talk g.L.Link.since g.L.Link.fault g.L.Link.downs (block_act writing_app handle (block_with_bytes rows.app))
    (block_act writing_sort handle (block_with_bytes rows.sort)) _ _ _ _ (rw c.app.ensures.block at c.in_err-write_app.ensures.asks))

pub returns-clause-asks : goal.returns-clause-asks
unfolding block_acts
returns-clause-asks g c =
    let handle = c.args.db.now.handle in
    let rows = c.in-Some.rows.now in
    rw c.in-Some.is
    (asks_then g.L.Link.talk g.L.Link.since g.L.Link.fault g.L.Link.downs g.met.L.Link.since_more (block_act writing_app handle (block_with_bytes rows.app))
    (block_act writing_sort handle (block_with_bytes rows.sort)) _ _ _ _
    (all_said g.L.Link.talk g.L.Link.since g.L.Link.fault g.L.Link.downs _ _ _ _ (rw c.app.ensures.block at c.in_ok-write_app.ensures.asks))
    (rw (c.in_ok-write_app.ensures.same_handle, c.sort.ensures.block) at c.write_sort.ensures.asks))

pub returns-in_default-clause-follows : goal.returns-in_default-clause-follows
unfolding ◌>>=◌
returns-in_default-clause-follows g c = rw c.in_default.is (follows_none g.met.L.Link.heard_none _ _ refl)

pub returns-in_err-write_app-clause-follows : goal.returns-in_err-write_app-clause-follows
returns-in_err-write_app-clause-follows g c =
    let p = err_from_is_err_and c.from_residual.result c.from_residual.ensures.1 in
    rw (c.in-Some.is, p.1, p.2) (then_ends g.met.L.Link.heard_none g.met.L.Link.heard_more _
    (rw c.app.ensures.block at c.in_err-write_app.ensures.follows))

pub returns-clause-follows : goal.returns-clause-follows
returns-clause-follows g c =
    rw c.in-Some.is (then_goes g.met.L.Link.heard_none g.met.L.Link.heard_more _ (rw c.app.ensures.block at c.in_ok-write_app.ensures.follows)
    (rw (c.in_ok-write_app.ensures.same_handle, c.sort.ensures.block) at c.write_sort.ensures.follows))
