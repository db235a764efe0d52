-- The changed records are read one after the other.
use Rattle.std.proofs.Common.{◌≡◌, ◌∙◌, ◌<◌, refl, ap, sym, subst, arith, rules, option_to_list}
use Rattle.std.proofs.lemmas.List.Elements.{All-nil, All-push}
use Rattle.std.proofs.lemmas.Result.{err_from_is_err_and}
use Rattle.std.specs.Prelude.{IfSome, None}
use Rattle.conduit_rules.specs.ById.{id_bound}
use Rattle.conduit_rules.specs.declared.view.Seen.{Seen}
use Rattle.mirrors.specs.Entries.{AreBounded}
use Rattle.mirrors.specs.Shells.{AreRead, IsRead}
use Rattle.mirrors.proofs.ChangedLaws.{changed_all, changed_ends, changed_none, changed_on, changed_stop, changed_whole, read_more, shown_all}
use Rattle.mirrors.proofs.PartFollows.{loop_begins, loop_done, loop_lost, loop_on, loop_stop}
use Rattle.mirrors.proofs.ReadFollows.{changed-begin, changed-end, changed-next}
use Rattle.mirrors.proofs.changed.read_changed.Goals as goal

pub loop-request-init : goal.loop-request-init
loop-request-init g c = record {
  reference = refl;
  handle = refl;
  said = changed_none g.met.L.Link.since_itself
      c.new-seen.ensures.items;
  bounded = rw c.new-seen.ensures.items (All-nil (λ (s : Seen). s.id < id_bound));
  read = rw c.new-seen.ensures.items tt;
  follows = loop_begins g.met.L.Link.heard_none c.args.db.now.linked.now.link (changed-begin c.args.db.now.handle c.args.most c.new-seen.ensures.items);
  none = λ some. absurd (omega arith);
}

pub loop-request-preserved : goal.loop-request-preserved
loop-request-preserved g c =
    let before = c.loop-request.invariant in
    record {
      reference = cc;
      handle = cc;
      said = changed_on g.met.L.Link.since_more
          before.handle c.loop-request-test.true c.in_ok-entry.ensures.none
          (c.in_ok-entry.ensures.seen ∙ ap option_to_list c.in-Some.is) c.in_ok-push.ensures.items before.said c.in_ok-entry.ensures.asked;
      bounded = subst AreBounded (sym c.in_ok-push.ensures.items)
          (All-push (λ (s : Seen). s.id < id_bound) c.loop-request.seen.items c.in-Some.entry before.bounded
          (subst (λ o. IfSome o (λ (s : Seen). s.id < id_bound)) c.in-Some.is c.in_ok-entry.ensures.bounded));
      read = subst AreRead (sym c.in_ok-push.ensures.items)
          (read_more c.loop-request.seen.items c.in-Some.entry before.read (subst (λ o. IfSome o IsRead) c.in-Some.is c.in_ok-entry.ensures.read));
      follows = rw c.in_ok-push.ensures.items
          (loop_on g.met.L.Link.heard_more _ (changed-next c.args.db.now.handle c.loop-request._request c.args.most c.loop-request.seen.items c.loop-request-test.true)
          before.follows (rw (before.handle, c.in-Some.is) at c.in_ok-entry.ensures.follows));
      none = λ some. c.in_ok-entry.ensures.none;
    }

pub returns-in_err-entry-clause-asks : goal.returns-in_err-entry-clause-asks
returns-in_err-entry-clause-asks g c =
    let p = err_from_is_err_and c.from_residual.result c.from_residual.ensures.1 in
    let before = c.loop-request.invariant in
    rw (p.1, p.2)
    (changed_stop g.met.L.Link.since_more
    _ before.handle c.loop-request-test.true before.said c.in_err-entry.ensures.asked)

pub returns-in_err-push-clause-asks : goal.returns-in_err-push-clause-asks
returns-in_err-push-clause-asks g c =
    let p = err_from_is_err_and c.from_residual-in_err-push.result c.from_residual-in_err-push.ensures.1 in
    let before = c.loop-request.invariant in
    rw (p.1, p.2)
    (changed_stop g.met.L.Link.since_more
    _ before.handle c.loop-request-test.true before.said c.in_ok-entry.ensures.asked)

pub returns-in_default-clause-asks : goal.returns-in_default-clause-asks
returns-in_default-clause-asks g c =
    let before = c.loop-request.invariant in
    let none : c.in_ok-entry.field-0 ≡ None = search rules in
    (changed_ends g.met.L.Link.since_more
    c.loop-request.seen before.handle c.loop-request-test.true c.in_ok-entry.ensures.none
    (c.in_ok-entry.ensures.seen ∙ ap option_to_list none) before.said c.in_ok-entry.ensures.asked).0

pub returns-in_default-clause-seen : goal.returns-in_default-clause-seen
returns-in_default-clause-seen g c =
    let before = c.loop-request.invariant in
    let none : c.in_ok-entry.field-0 ≡ None = search rules in
    (changed_ends g.met.L.Link.since_more
    c.loop-request.seen before.handle c.loop-request-test.true c.in_ok-entry.ensures.none
    (c.in_ok-entry.ensures.seen ∙ ap option_to_list none) before.said c.in_ok-entry.ensures.asked).1

pub returns-clause-asks : goal.returns-clause-asks
returns-clause-asks g c =
    let before = c.loop-request.invariant in
    let all : c.loop-request._request ≡ c.args.most = omega arith in
    changed_all
    (changed_whole
    all before.said)

pub returns-clause-seen : goal.returns-clause-seen
returns-clause-seen g c =
    let before = c.loop-request.invariant in
    let all : c.loop-request._request ≡ c.args.most = omega arith in
    shown_all
    (changed_whole
    all before.said)

pub returns-in_err-entry-clause-last : goal.returns-in_err-entry-clause-last
returns-in_err-entry-clause-last g c =
    let p = err_from_is_err_and c.from_residual.result c.from_residual.ensures.1 in
    rw (p.1, p.2) c.in_err-entry.ensures.last

pub returns-in_err-push-clause-last : goal.returns-in_err-push-clause-last
returns-in_err-push-clause-last g c =
    let p = err_from_is_err_and c.from_residual-in_err-push.result c.from_residual-in_err-push.ensures.1 in
    rw (p.1, p.2) (rw c.in_err-push.ensures.memory tt)

pub returns-in_err-entry-clause-follows : goal.returns-in_err-entry-clause-follows
returns-in_err-entry-clause-follows g c =
    let p = err_from_is_err_and c.from_residual.result c.from_residual.ensures.1 in
    let before = c.loop-request.invariant in
    rw (p.1, p.2)
    (loop_stop g.met.L.Link.heard_more _ (changed-next c.args.db.now.handle c.loop-request._request c.args.most c.loop-request.seen.items c.loop-request-test.true)
    before.follows (rw before.handle at c.in_err-entry.ensures.follows))

pub returns-in_err-push-clause-follows : goal.returns-in_err-push-clause-follows
returns-in_err-push-clause-follows g c =
    let p = err_from_is_err_and c.from_residual-in_err-push.result c.from_residual-in_err-push.ensures.1 in
    let before = c.loop-request.invariant in
    rw (p.1, p.2, c.in_err-push.ensures.memory)
    (loop_lost g.met.L.Link.heard_more _ (changed-next c.args.db.now.handle c.loop-request._request c.args.most c.loop-request.seen.items c.loop-request-test.true)
    before.follows (rw before.handle at c.in_ok-entry.ensures.follows))

pub returns-in_default-clause-follows : goal.returns-in_default-clause-follows
returns-in_default-clause-follows g c =
    let before = c.loop-request.invariant in
    let none : c.in_ok-entry.field-0 ≡ None = search rules in
    loop_done refl
    (loop_on g.met.L.Link.heard_more _ (changed-next c.args.db.now.handle c.loop-request._request c.args.most c.loop-request.seen.items c.loop-request-test.true)
    before.follows (rw (before.handle, none) at c.in_ok-entry.ensures.follows))

pub returns-clause-follows : goal.returns-clause-follows
returns-clause-follows g c =
    loop_done (changed-end c.args.db.now.handle c.loop-request._request c.args.most c.loop-request.seen.items (omega arith))
    c.loop-request.invariant.follows
