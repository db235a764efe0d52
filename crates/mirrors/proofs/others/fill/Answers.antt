-- An entry is shown behind the others, or none is.
use Rattle.std.proofs.Common.{◌≡◌, ◌++◌, append-nil, subst, List, rules, option_to_list}
use Rattle.std.proofs.lemmas.Result.{err_from_is_err_and}
use Rattle.std.specs.Prelude.{Ok, Option, None, Some}
use Rattle.conduit_rules.specs.declared.view.Seen.{Seen}
use Rattle.desktop_session.specs.Following.{Follows}
use Rattle.mirrors.specs.ReadInquiries.{fills_next}
use Rattle.mirrors.proofs.PartFollows.{then_ends, then_lost, then_made}
use Rattle.mirrors.proofs.others.fill.Goals as goal

pub returns-in_err-found-clause-follows : goal.returns-in_err-found-clause-follows
returns-in_err-found-clause-follows g c =
    let p = err_from_is_err_and c.from_residual.result c.from_residual.ensures.1 in
    rw (p.1, p.2) (then_ends g.met.L.Link.heard_none g.met.L.Link.heard_more _ c.in_err-found.ensures.follows)

pub returns-in_err-push-clause-follows : goal.returns-in_err-push-clause-follows
returns-in_err-push-clause-follows g c =
    let p = err_from_is_err_and c.from_residual-in_err-push.result c.from_residual-in_err-push.ensures.1 in
    rw (p.1, p.2, c.in_err-push.ensures.memory)
    (then_lost g.met.L.Link.heard_none g.met.L.Link.heard_more _ c.in_ok-found.ensures.follows)

pub returns-in_ok-push-clause-follows : goal.returns-in_ok-push-clause-follows
returns-in_ok-push-clause-follows g c =
    rw c.in_ok-push.ensures.items
    (then_made g.met.L.Link.heard_none g.met.L.Link.heard_more (λ (found : Option Seen). c.args.seen.now.items ++ option_to_list found)
    (Ok (Some c.in-Some.entry)) (rw c.in-Some.is at c.in_ok-found.ensures.follows))

pub returns-in_default-clause-follows : goal.returns-in_default-clause-follows
returns-in_default-clause-follows g c =
    let seen = c.args.seen.now.items in
    let none : c.in_ok-found.found ≡ None = search rules in
    subst (λ (shown : List Seen). Follows g.L.Link (fills_next c.args.base.now c.args.db.now.handle seen c.args.entry) c.args.db.now.linked.now.link
    c.filled.new.db.linked.now.link (Ok shown)) (append-nil seen)
    (then_made g.met.L.Link.heard_none g.met.L.Link.heard_more (λ (found : Option Seen). seen ++ option_to_list found) (Ok None)
    (rw none at c.in_ok-found.ensures.follows))
