-- A database is opened, purged, and closed.
use Rattle.std.proofs.Common.{[], refl, rules}
use Rattle.std.proofs.lemmas.Result.{err_from_is_err_and}
use Rattle.dlp_replies.specs.ReplyReading.{reply_at}
use Rattle.desktop_session.specs.Answers.{no_more}
use Rattle.session_parts.proofs.CauseLaws.{later_answer, later_by_three}
use Rattle.session_parts.proofs.HandleLaws.{opened_first}
use Rattle.session_parts.proofs.SpanLaws.{any_answer, span_closed, span_stopped, span_unopened}
use Rattle.desktop_session.specs.Asking.{opens}
use Rattle.session_parts.proofs.UnderLaws.{under_done, under_stopped, under_unopened}
use Rattle.mirrors.specs.WriteInquiries.{purges}
use Rattle.sync_session.proofs.purging.purge_one.Goals as goal

pub returns-in_err-opened : goal.returns-in_err-opened
returns-in_err-opened g c =
    let p = err_from_is_err_and c.from_residual.result c.from_residual.ensures.1 in
    record {
      spans = rw (p.1, p.2) (span_unopened _ 0x17 _ _ refl refl c.in_err-opened.was c.open.follows.holds-at-none);
      follows = rw (p.1, p.2) (under_unopened g.met.L.Link.heard_none g.met.L.Link.heard_more (opens 0xD0 c.args.name.now) (λ handle. purges handle c.args.plan.now.purge.items) _ _ _ c.in_err-opened.was
          c.open.follows.holds-at-none);
    }

pub returns-in-Err : goal.returns-in-Err
returns-in-Err g c =
    let opened = opened_first c.args.name.now c.in_ok-opened.ensures.asked c.in_ok-opened.ensures.handle in
    let reply = c.purge_side.new.db.linked.now.reply in
    record {
      spans = span_stopped g.met.L.Link.since_more _ [] opened c.in-Err.ensures.asks
          (later_by_three _ _ (reply_at 0x22 reply) (reply_at 0x26 reply) (reply_at 0x27 reply) _ c.in-Err.ensures.cause c.in-Err.ensures.last) (search rules);
      follows = under_stopped g.met.L.Link.heard_none g.met.L.Link.heard_more (opens 0xD0 c.args.name.now) (λ handle. purges handle c.args.plan.now.purge.items) c.in_ok-opened.ensures.follows
          c.in-Err.ensures.follows (search rules);
    }

pub returns : goal.returns
returns g c =
    let opened = opened_first c.args.name.now c.in_ok-opened.ensures.asked c.in_ok-opened.ensures.handle in
    let closed = c.close.ensures in
    record {
      spans = span_closed g.met.L.Link.since_more _ [] _ opened c.in-Ok.ensures.asks c.in-Ok.ensures.same_handle closed.asked closed.answer
          (later_answer no_more c.close.result refl closed.asked closed.answer) (any_answer c.close.result) (search rules);
      follows = under_done g.met.L.Link.heard_none g.met.L.Link.heard_more (opens 0xD0 c.args.name.now) (λ handle. purges handle c.args.plan.now.purge.items) c.in_ok-opened.ensures.follows
          c.in-Ok.ensures.follows c.in-Ok.ensures.same_handle c.close.result closed.follows (search rules);
    }
