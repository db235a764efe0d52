-- A list grows by one request until it goes on nowhere.
use Rattle.std.proofs.Common.{◌≡◌, ◌∙◌, lit<, sym, rules}
use Rattle.std.specs.Prelude.{None}
use Rattle.std.proofs.lemmas.Result.{err_from_is_err_and}
use Rattle.dlp_replies.specs.ReplyReading.{reply_at}
use Rattle.desktop_session.proofs.ListLaws.{lists_done, lists_failed, lists_goes_on, lists_none}
use Rattle.desktop_session.proofs.RepliedLaws.{list_replied}
use Rattle.desktop_session.proofs.HeadLaws.{lists_begin, lists_end, lists_next, lists_stop}
use Rattle.desktop_session.proofs.StartLaws.{listed_none, listed_on, next_above, next_below}
use Rattle.desktop_session.proofs.linked.Linked.list.Goals as goal

pub start-init : goal.start-init
start-init g c = (
  lists_none g.met.L.Link.since_itself c.new-heads.ensures.items,
  listed_none c.new-heads.ensures.items,
  lit< tt,
  lists_begin g.met.L.Link.heard_none c.new-heads.ensures.items,
)

pub start-preserved : goal.start-preserved
start-preserved g c =
    let few = c.start.invariant.2 in
    let goes = sym c.in_ok-next.ensures.next ∙ c.in-Some.is in (
      lists_goes_on g.met.L.Link.since_more c.start.invariant.0 c.in_ok-next.ensures.asked c.in_ok-next.ensures.none few goes c.in_ok-next.ensures.heads,
      listed_on (reply_at 0x16 c.list_from.new.self.reply) c.start.invariant.1 goes c.in_ok-next.ensures.heads,
      next_below (reply_at 0x16 c.list_from.new.self.reply) c.start.start c.in-Some.next goes,
      lists_next g.met.L.Link.heard_more few c.start.invariant.3 (next_above (reply_at 0x16 c.list_from.new.self.reply) c.start.start c.in-Some.next goes)
          (rw c.in-Some.is at c.in_ok-next.ensures.follows),
    )

pub returns-in_err-next-clause-lists : goal.returns-in_err-next-clause-lists
returns-in_err-next-clause-lists g c =
    let p = err_from_is_err_and c.from_residual.result c.from_residual.ensures.1 in
    let few = c.start.invariant.2 in
    rw (p.1, p.2) (lists_failed g.met.L.Link.since_more _ c.start.invariant.0 c.in_err-next.ensures.asked few)

pub returns-in_default-clause-lists : goal.returns-in_default-clause-lists
returns-in_default-clause-lists g c =
    let few = c.start.invariant.2 in
    let ends : c.in_ok-next.field-0 ≡ None = search rules in
    lists_done g.met.L.Link.since_more c.start.invariant.0 c.in_ok-next.ensures.asked c.in_ok-next.ensures.none few
    (sym c.in_ok-next.ensures.next ∙ ends) c.in_ok-next.ensures.heads

pub returns-in_err-next-clause-replied : goal.returns-in_err-next-clause-replied
returns-in_err-next-clause-replied g c =
    let p = err_from_is_err_and c.from_residual.result c.from_residual.ensures.1 in
    let few = c.start.invariant.2 in
    rw p.1 (list_replied c.start.invariant.0 c.in_err-next.ensures.asked few)

pub returns-in_err-next-clause-follows : goal.returns-in_err-next-clause-follows
returns-in_err-next-clause-follows g c =
    let p = err_from_is_err_and c.from_residual.result c.from_residual.ensures.1 in
    rw (p.1, p.2) (lists_stop g.met.L.Link.heard_more c.start.invariant.2 c.start.invariant.3 c.in_err-next.ensures.follows)

pub returns-in_default-clause-follows : goal.returns-in_default-clause-follows
returns-in_default-clause-follows g c =
    let ends : c.in_ok-next.field-0 ≡ None = search rules in
    lists_end g.met.L.Link.heard_more c.start.invariant.2 c.start.invariant.3 (rw ends at c.in_ok-next.ensures.follows)
