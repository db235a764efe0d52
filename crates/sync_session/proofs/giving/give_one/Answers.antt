-- A database is opened, given its news, and closed.
use Rattle.std.proofs.Common.{ℕ, List, refl, rules}
use Rattle.std.proofs.lemmas.Result.{err_from_is_err_and}
use Rattle.dlp_replies.specs.ReplyReading.{reply_at}
use Rattle.session_parts.proofs.CauseLaws.{later_by}
use Rattle.session_parts.proofs.HandleLaws.{opened_first}
use Rattle.session_parts.proofs.SpanLaws.{span_done, span_stopped, span_unclosed, span_unopened}
use Rattle.desktop_session.specs.Asking.{opens}
use Rattle.session_parts.proofs.UnderLaws.{under_closed, under_stopped, under_unclosed, under_unopened}
use Rattle.conduit_rules.specs.declared.planned.Plan.{Plan}
use Rattle.desktop_session.specs.Inquiries.{Inquiry}
use Rattle.mirrors.specs.WriteInquiries.{sends_news}
use Rattle.sync_session.proofs.giving.give_one.Goals as goal

-- what is asked under its handle
abbrev news : Plan → ℕ → Inquiry (List ℕ)
news plan = λ handle. sends_news handle plan

pub returns-in_err-opened : goal.returns-in_err-opened
returns-in_err-opened g c =
    let p = err_from_is_err_and c.from_residual.result c.from_residual.ensures.1 in
    record {
      spans = rw (p.1, p.2) (span_unopened _ 0x17 _ _ refl refl c.in_err-opened.was c.open.follows.holds-at-none);
      follows = rw (p.1, p.2) (under_unopened g.met.L.Link.heard_none g.met.L.Link.heard_more (opens 0xD0 c.args.name.now) (news c.args.plan.now) _ _ _ c.in_err-opened.was c.open.follows.holds-at-none);
    }

pub returns-in-Err : goal.returns-in-Err
returns-in-Err g c =
    let opened = opened_first c.args.name.now c.in_ok-opened.ensures.asked c.in_ok-opened.ensures.handle in
    let puts = c.in-Err.ensures.puts in
    record {
      spans = span_stopped g.met.L.Link.since_more _ puts.given opened puts.asks
          (later_by _ _ (reply_at 0x21 c.send_news.new.db.linked.now.reply) _ puts.cause c.in-Err.ensures.last) (search rules);
      follows = under_stopped g.met.L.Link.heard_none g.met.L.Link.heard_more (opens 0xD0 c.args.name.now) (news c.args.plan.now) c.in_ok-opened.ensures.follows c.in-Err.ensures.follows (search rules);
    }

pub returns-in_err-close : goal.returns-in_err-close
returns-in_err-close g c =
    let p = err_from_is_err_and c.from_residual-in_err-close.result c.from_residual-in_err-close.ensures.1 in
    let opened = opened_first c.args.name.now c.in_ok-opened.ensures.asked c.in_ok-opened.ensures.handle in
    let puts = c.in-Ok.ensures.puts in
    record {
      spans = rw (p.1, p.2) (span_unclosed g.met.L.Link.since_more _ puts.given opened puts.asks c.in-Ok.ensures.same_handle
          c.in_err-close.ensures.asked c.in_err-close.ensures.answer (search rules));
      follows = rw (p.1, p.2) (under_unclosed g.met.L.Link.heard_none g.met.L.Link.heard_more (opens 0xD0 c.args.name.now) (news c.args.plan.now) c.in_ok-opened.ensures.follows c.in-Ok.ensures.follows
          c.in-Ok.ensures.same_handle c.in_err-close.ensures.follows (search rules));
    }

pub returns : goal.returns
returns g c =
    let opened = opened_first c.args.name.now c.in_ok-opened.ensures.asked c.in_ok-opened.ensures.handle in
    let puts = c.in-Ok.ensures.puts in
    record {
      spans = span_done g.met.L.Link.since_more _ puts.given opened puts.asks c.in-Ok.ensures.same_handle c.in_ok-close.ensures.asked
          c.in_ok-close.ensures.answer (record { behind = puts.said; own = puts.ids; free = rw opened.told at puts.free }) (search rules);
      follows = under_closed g.met.L.Link.heard_none g.met.L.Link.heard_more (opens 0xD0 c.args.name.now) (news c.args.plan.now) c.in_ok-opened.ensures.follows c.in-Ok.ensures.follows
          c.in-Ok.ensures.same_handle c.in_ok-close.ensures.follows (search rules);
    }
