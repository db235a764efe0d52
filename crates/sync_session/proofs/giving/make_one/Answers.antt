-- A database is made, given its blocks and its news, and closed.
use Rattle.std.proofs.Common.{◌++◌, refl, rules}
use Rattle.std.proofs.lemmas.Result.{err_from_is_err_and}
use Rattle.std.specs.Option.{option_copied}
use Rattle.mirrors.specs.News.{news_of, puts}
use Rattle.session_parts.proofs.HandleLaws.{made_first}
use Rattle.session_parts.proofs.SpanLaws.{span_done, span_stopped, span_unclosed, span_unopened}
use Rattle.desktop_session.specs.Asking.{makes}
use Rattle.session_parts.proofs.UnderLaws.{under_closed, under_stopped, under_unclosed, under_unopened}
use Rattle.session_plan.specs.Blocks.{blocks_of}
use Rattle.sync_session.specs.Inquiries.{fills}
use Rattle.sync_session.specs.News.{block_acts}
use Rattle.sync_session.proofs.BlockLaws.{gained_behind}
use Rattle.sync_session.proofs.giving.make_one.Goals as goal

pub returns-in_err-opened : goal.returns-in_err-opened
returns-in_err-opened g c =
    let p = err_from_is_err_and c.from_residual.result c.from_residual.ensures.1 in
    let blocks = blocks_of (option_copied c.args.rows) in
    record {
      spans = rw (p.1, p.2) (span_unopened _ 0x18 (λ handle given. block_acts handle blocks ++ puts handle given (news_of c.args.plan.now)) _
          refl refl c.in_err-opened.was c.create.follows.holds-at-none);
      follows = rw (p.1, p.2) (under_unopened g.met.L.Link.heard_none g.met.L.Link.heard_more (makes c.args.head.now) (λ handle. fills handle blocks c.args.plan.now) _ _ _ c.in_err-opened.was
          c.create.follows.holds-at-none);
    }

pub returns-in-Err : goal.returns-in-Err
returns-in-Err g c =
    let opened = made_first c.args.head.now c.in_ok-opened.ensures.asked c.in_ok-opened.ensures.handle in
    let blocks = blocks_of (option_copied c.args.rows) in
    let filled = c.in-Err.ensures.fills in
    record {
      spans = span_stopped g.met.L.Link.since_more (λ handle given. block_acts handle blocks ++ puts handle given (news_of c.args.plan.now))
          filled.given opened filled.asks c.in-Err.ensures.cause (search rules);
      follows = under_stopped g.met.L.Link.heard_none g.met.L.Link.heard_more (makes c.args.head.now) (λ handle. fills handle blocks c.args.plan.now) c.in_ok-opened.ensures.follows
          c.in-Err.ensures.follows (search rules);
    }

pub returns-in_err-close : goal.returns-in_err-close
returns-in_err-close g c =
    let p = err_from_is_err_and c.from_residual-in_err-close.result c.from_residual-in_err-close.ensures.1 in
    let opened = made_first c.args.head.now c.in_ok-opened.ensures.asked c.in_ok-opened.ensures.handle in
    let blocks = blocks_of (option_copied c.args.rows) in
    let filled = c.in-Ok.ensures.fills in
    record {
      spans = rw (p.1, p.2) (span_unclosed g.met.L.Link.since_more (λ handle given. block_acts handle blocks ++ puts handle given (news_of c.args.plan.now))
          filled.given opened filled.asks c.in-Ok.ensures.same_handle c.in_err-close.ensures.asked c.in_err-close.ensures.answer (search rules));
      follows = rw (p.1, p.2) (under_unclosed g.met.L.Link.heard_none g.met.L.Link.heard_more (makes c.args.head.now) (λ handle. fills handle blocks c.args.plan.now) c.in_ok-opened.ensures.follows
          c.in-Ok.ensures.follows c.in-Ok.ensures.same_handle c.in_err-close.ensures.follows (search rules));
    }

pub returns : goal.returns
returns g c =
    let opened = made_first c.args.head.now c.in_ok-opened.ensures.asked c.in_ok-opened.ensures.handle in
    let blocks = blocks_of (option_copied c.args.rows) in
    let filled = c.in-Ok.ensures.fills in
    record {
      spans = span_done g.met.L.Link.since_more (λ handle given. block_acts handle blocks ++ puts handle given (news_of c.args.plan.now))
          filled.given opened filled.asks c.in-Ok.ensures.same_handle c.in_ok-close.ensures.asked c.in_ok-close.ensures.answer
          (gained_behind c.args.head.now blocks (g.L.Link.talk c.args.linked.now.link) opened.told filled.said) (search rules);
      follows = under_closed g.met.L.Link.heard_none g.met.L.Link.heard_more (makes c.args.head.now) (λ handle. fills handle blocks c.args.plan.now) c.in_ok-opened.ensures.follows
          c.in-Ok.ensures.follows c.in-Ok.ensures.same_handle c.in_ok-close.ensures.follows (search rules);
    }
