-- The blocks, and then the news.
use Rattle.std.proofs.Common.{[]}
use Rattle.std.proofs.lemmas.Result.{err_from_is_err_and}
use Rattle.std.specs.Option.{option_copied}
use Rattle.mirrors.specs.News.{news_of, puts}
use Rattle.mirrors.proofs.AskLaws.{all_said, asks_part, asks_then}
use Rattle.mirrors.proofs.PartFollows.{then_ends, then_goes}
use Rattle.session_plan.specs.Blocks.{blocks_of}
use Rattle.sync_session.specs.News.{block_acts}
use Rattle.sync_session.proofs.BlockLaws.{filled_said, later_put}
use Rattle.sync_session.proofs.giving.fill.Goals as goal

pub returns-in_err-write_blocks-clause-fills : goal.returns-in_err-write_blocks-clause-fills
returns-in_err-write_blocks-clause-fills g c =
    let p = err_from_is_err_and c.from_residual.result c.from_residual.ensures.1 in
    let handle = c.args.db.now.handle in
    let blocks = blocks_of (option_copied c.args.rows) in
    rw (p.1, p.2) (record {
      given = [];
      asks = asks_part g.L.Link.talk g.L.Link.since g.L.Link.fault g.L.Link.downs (block_acts handle blocks)
          (puts handle [] (news_of c.args.plan.now)) _ _ _ _ c.in_err-write_blocks.ensures.asks;
      said = tt;
    })

pub returns-clause-fills : goal.returns-clause-fills
returns-clause-fills g c =
    let handle = c.args.db.now.handle in
    let blocks = blocks_of (option_copied c.args.rows) in
    let news = rw c.in_ok-write_blocks.ensures.same_handle at c.send_news.ensures.puts in
    let first = all_said g.L.Link.talk g.L.Link.since g.L.Link.fault g.L.Link.downs _ _ _ _ c.in_ok-write_blocks.ensures.asks in
    record {
      given = news.given;
      asks = asks_then g.L.Link.talk g.L.Link.since g.L.Link.fault g.L.Link.downs g.met.L.Link.since_more (block_acts handle blocks)
          (puts handle news.given (news_of c.args.plan.now)) _ _ _ _ first news.asks;
      said = filled_said c.args.plan.now first.does.said news;
    }

pub returns-clause-cause : goal.returns-clause-cause
returns-clause-cause g c = later_put g.L.Link.talk g.L.Link.fault c.send_news.new.db.linked.now c.send_news.result c.send_news.ensures.puts.cause c.send_news.ensures.last

pub returns-in_err-write_blocks-clause-follows : goal.returns-in_err-write_blocks-clause-follows
returns-in_err-write_blocks-clause-follows g c =
    let p = err_from_is_err_and c.from_residual.result c.from_residual.ensures.1 in
    rw (p.1, p.2) (then_ends g.met.L.Link.heard_none g.met.L.Link.heard_more _ c.in_err-write_blocks.ensures.follows)

pub returns-clause-follows : goal.returns-clause-follows
returns-clause-follows g c =
    then_goes g.met.L.Link.heard_none g.met.L.Link.heard_more _ c.in_ok-write_blocks.ensures.follows
    (rw c.in_ok-write_blocks.ensures.same_handle at c.send_news.ensures.follows)
