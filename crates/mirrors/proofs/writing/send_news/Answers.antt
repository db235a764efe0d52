-- The replacements, and then the new records.
use Rattle.std.proofs.lemmas.Result.{err_from_is_err_and}
use Rattle.mirrors.specs.News.{as_new}
use Rattle.mirrors.proofs.NewsLaws.{new_ids, news_stop, news_then}
use Rattle.mirrors.proofs.PartFollows.{then_ends, then_goes}
use Rattle.mirrors.proofs.writing.send_news.Goals as goal

pub returns-in_err-replace_all-clause-puts : goal.returns-in_err-replace_all-clause-puts
returns-in_err-replace_all-clause-puts g c =
    let p = err_from_is_err_and c.from_residual.result c.from_residual.ensures.1 in
    rw (p.1, p.2)
    (news_stop
    (as_new c.args.plan.now.adds.items) _ c.deref.ensures.value
    c.in_err-replace_all.ensures.puts)

pub returns-clause-puts : goal.returns-clause-puts
returns-clause-puts g c =
    news_then g.met.L.Link.since_more
    c.in_ok-replace_all.ensures.same_handle c.deref.ensures.value
    c.deref-2.ensures.value (λ gs hs x ids is. new_ids c.args.plan.now.replace.items gs ids is) c.in_ok-replace_all.ensures.puts
    c.add_all.ensures.puts

pub returns-in_err-replace_all-clause-follows : goal.returns-in_err-replace_all-clause-follows
returns-in_err-replace_all-clause-follows g c =
    let p = err_from_is_err_and c.from_residual.result c.from_residual.ensures.1 in
    rw (p.1, p.2)
    (then_ends g.met.L.Link.heard_none g.met.L.Link.heard_more _ (rw c.deref.ensures.value at c.in_err-replace_all.ensures.follows))

pub returns-clause-follows : goal.returns-clause-follows
returns-clause-follows g c =
    then_goes g.met.L.Link.heard_none g.met.L.Link.heard_more _ (rw c.deref.ensures.value at c.in_ok-replace_all.ensures.follows)
    (rw (c.in_ok-replace_all.ensures.same_handle, c.deref-2.ensures.value) at c.add_all.ensures.follows)
