-- The number of entries, and then each record.
use Rattle.std.proofs.Common.{refl}
use Rattle.std.proofs.lemmas.Result.{err_from_is_err_and}
use Rattle.dlp_replies.specs.ReplyReading.{reply_at}
use Rattle.desktop_session.specs.Requests.{counting}
use Rattle.mirrors.specs.Reads.{entries_of, reads}
use Rattle.mirrors.proofs.AskLaws.{asked_part, asks_other, asks_refused}
use Rattle.mirrors.proofs.ReadLaws.{count_from, count_told, shown_from, whole_asked}
use Rattle.desktop_session.specs.Answers.{count_of}
use Rattle.desktop_session.proofs.LastLaws.{last_refused}
use Rattle.std.specs.Prelude.{Ok}
use Rattle.mirrors.specs.Entries.{ordered}
use Rattle.mirrors.proofs.PartFollows.{then_ends, then_goes, then_lost, then_made}
use Rattle.mirrors.proofs.slow_reading.read_slowly.Goals as goal

pub returns-in_err-count-clause-asks : goal.returns-in_err-count-clause-asks
returns-in_err-count-clause-asks g c =
    let p = err_from_is_err_and c.from_residual.result c.from_residual.ensures.1 in
    let handle = c.args.db.now.handle in
    rw (p.1, p.2)
    (asked_part g.L.Link.talk g.L.Link.since g.L.Link.fault g.L.Link.downs (counting handle)
    (reads handle (entries_of (g.L.Link.talk c.args.db.now.linked.now.link) handle)) c.args.db.now.linked.now c.count.new.self.linked.now _
    c.in_err-count.ensures.asked)

pub returns-in_err-seen-clause-asks : goal.returns-in_err-seen-clause-asks
returns-in_err-seen-clause-asks g c =
    let p = err_from_is_err_and c.from_residual-in_err-seen.result c.from_residual-in_err-seen.ensures.1 in
    let handle = c.args.db.now.handle in
    rw (p.1, p.2)
    (asks_refused
    (whole_asked g.met.L.Link.since_more
    c.in_ok-count.ensures.same_handle
    c.in_ok-count.ensures.answer c.in_ok-count.ensures.asked c.in_err-seen.ensures.asks))

pub returns-in_err-in_order-clause-asks : goal.returns-in_err-in_order-clause-asks
returns-in_err-in_order-clause-asks g c =
    let handle = c.args.db.now.handle in
    asks_other
    _
    (whole_asked g.met.L.Link.since_more
    c.in_ok-count.ensures.same_handle
    c.in_ok-count.ensures.answer c.in_ok-count.ensures.asked c.in_ok-seen.ensures.asks)

pub returns-clause-asks : goal.returns-clause-asks
returns-clause-asks g c =
    let handle = c.args.db.now.handle in
    asks_other
    _
    (whole_asked g.met.L.Link.since_more
    c.in_ok-count.ensures.same_handle
    c.in_ok-count.ensures.answer c.in_ok-count.ensures.asked c.in_ok-seen.ensures.asks)

pub returns-clause-view : goal.returns-clause-view
returns-clause-view g c =
    let handle = c.args.db.now.handle in
    let old = c.args.db.now.linked.now in
    let counted = c.count.new.self.linked.now in
    let from = count_from (g.L.Link.fault counted.link) (reply_at 0x2B counted.reply) c.in_ok-count.ensures.answer in
    shown_from (g.L.Link.talk old.link) c.in_ok-count.count c.in_ok-seen.seen.items
    c.in_ok-count.ensures.same_handle (c.in_ok-count.ensures.asked.does from.0).said
    (count_told (g.L.Link.talk old.link) handle counted.reply (c.in_ok-count.ensures.asked.told from.0) from.1)
    c.in_ok-seen.ensures.seen c.in_ok-in_order.ensures.ordered

pub returns-in_err-count-clause-last : goal.returns-in_err-count-clause-last
returns-in_err-count-clause-last g c =
    let p = err_from_is_err_and c.from_residual.result c.from_residual.ensures.1 in
    rw (p.1, p.2) (last_refused count_of _ refl c.in_err-count.ensures.asked c.in_err-count.ensures.answer)

pub returns-in_err-count-clause-follows : goal.returns-in_err-count-clause-follows
returns-in_err-count-clause-follows g c =
    let p = err_from_is_err_and c.from_residual.result c.from_residual.ensures.1 in
    rw (p.1, p.2) (then_ends g.met.L.Link.heard_none g.met.L.Link.heard_more _ c.in_err-count.ensures.follows)

pub returns-in_err-seen-clause-follows : goal.returns-in_err-seen-clause-follows
returns-in_err-seen-clause-follows g c =
    let p = err_from_is_err_and c.from_residual-in_err-seen.result c.from_residual-in_err-seen.ensures.1 in
    rw (p.1, p.2)
    (then_goes g.met.L.Link.heard_none g.met.L.Link.heard_more _ c.in_ok-count.ensures.follows
    (then_ends g.met.L.Link.heard_none g.met.L.Link.heard_more _ (rw c.in_ok-count.ensures.same_handle at c.in_err-seen.ensures.follows)))

pub returns-in_err-in_order-clause-follows : goal.returns-in_err-in_order-clause-follows
returns-in_err-in_order-clause-follows g c =
    let p = err_from_is_err_and c.from_residual-in_err-in_order.result c.from_residual-in_err-in_order.ensures.1 in
    rw (p.1, p.2)
    (then_goes g.met.L.Link.heard_none g.met.L.Link.heard_more _ c.in_ok-count.ensures.follows
    (then_lost g.met.L.Link.heard_none g.met.L.Link.heard_more _ (rw c.in_ok-count.ensures.same_handle at c.in_ok-seen.ensures.follows)))

pub returns-clause-follows : goal.returns-clause-follows
returns-clause-follows g c =
    rw c.in_ok-in_order.ensures.ordered
    (then_goes g.met.L.Link.heard_none g.met.L.Link.heard_more _ c.in_ok-count.ensures.follows
    (then_made g.met.L.Link.heard_none g.met.L.Link.heard_more ordered (Ok c.in_ok-seen.seen.items)
    (rw c.in_ok-count.ensures.same_handle at c.in_ok-seen.ensures.follows)))
