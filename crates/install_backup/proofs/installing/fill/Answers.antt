-- Both blocks, and then the entries.
use Rattle.std.proofs.Common.{◌++◌}
use Rattle.std.proofs.lemmas.Result.{err_from_is_err_and}
use Rattle.desktop_session.specs.Requests.{writing_app, writing_sort}
use Rattle.mirrors.proofs.AskLaws.{all_said, asks_part, asks_then}
use Rattle.install_backup.specs.InstallActs.{block_acts, entry_acts, fill_acts}
use Rattle.install_backup.proofs.installing.fill.Goals as goal

pub returns-in_err-write_app-clause-asks : goal.returns-in_err-write_app-clause-asks
unfolding fill_acts
returns-in_err-write_app-clause-asks g c =
    let p = err_from_is_err_and c.from_residual.result c.from_residual.ensures.1 in
    let handle = c.args.db.now.handle in
    let database = c.args.database.now in
    rw (p.1, p.2)
    (asks_part g.L.Link.talk g.L.Link.since g.L.Link.fault g.L.Link.downs (block_acts writing_app handle database.app)
    (block_acts writing_sort handle database.sort ++ entry_acts handle database) _ _ _ _ (rw c.app.ensures.block at c.in_err-write_app.ensures.asks))

pub returns-in_err-write_sort-clause-asks : goal.returns-in_err-write_sort-clause-asks
unfolding fill_acts
returns-in_err-write_sort-clause-asks g c =
    let p = err_from_is_err_and c.from_residual-in_err-write_sort.result c.from_residual-in_err-write_sort.ensures.1 in
    let handle = c.args.db.now.handle in
    let database = c.args.database.now in
    rw (p.1, p.2)
    (asks_then g.L.Link.talk g.L.Link.since g.L.Link.fault g.L.Link.downs g.met.L.Link.since_more (block_acts writing_app handle database.app)
    (block_acts writing_sort handle database.sort ++ entry_acts handle database) _ _ _ _
    (all_said g.L.Link.talk g.L.Link.since g.L.Link.fault g.L.Link.downs _ _ _ _ (rw c.app.ensures.block at c.in_ok-write_app.ensures.asks))
    (asks_part g.L.Link.talk g.L.Link.since g.L.Link.fault g.L.Link.downs (block_acts writing_sort handle database.sort)
    (entry_acts handle database) _ _ _ _ (rw (c.in_ok-write_app.ensures.same_handle, c.sort.ensures.block) at c.in_err-write_sort.ensures.asks)))

pub returns-clause-asks : goal.returns-clause-asks
unfolding fill_acts
returns-clause-asks g c =
    let handle = c.args.db.now.handle in
    let database = c.args.database.now in
    asks_then g.L.Link.talk g.L.Link.since g.L.Link.fault g.L.Link.downs g.met.L.Link.since_more (block_acts writing_app handle database.app)
    (block_acts writing_sort handle database.sort ++ entry_acts handle database) _ _ _ _
    (all_said g.L.Link.talk g.L.Link.since g.L.Link.fault g.L.Link.downs _ _ _ _ (rw c.app.ensures.block at c.in_ok-write_app.ensures.asks))
    (asks_then g.L.Link.talk g.L.Link.since g.L.Link.fault g.L.Link.downs g.met.L.Link.since_more (block_acts writing_sort handle database.sort)
    (entry_acts handle database) _ _ _ _
    (all_said g.L.Link.talk g.L.Link.since g.L.Link.fault g.L.Link.downs _ _ _ _
    (rw (c.in_ok-write_app.ensures.same_handle, c.sort.ensures.block) at c.in_ok-write_sort.ensures.asks))
    (rw (c.in_ok-write_sort.ensures.same_handle, c.in_ok-write_app.ensures.same_handle) at c.write_entries.ensures.asks))
