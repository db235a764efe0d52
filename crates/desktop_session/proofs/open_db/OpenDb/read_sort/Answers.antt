-- One request is followed, and a copy is made of its reply.
use Rattle.std.proofs.Common.{rules}
use Rattle.std.proofs.lemmas.Result.{err_from_is_err_and}
use Rattle.dlp_replies.specs.ReplyReading.{reply_at}
use Rattle.desktop_session.specs.Answers.{block_of, or_none, said_in}
use Rattle.desktop_session.specs.Requests.{reading_sort}
use Rattle.desktop_session.proofs.CopyLaws.{copy_follows}
use Rattle.desktop_session.proofs.FollowLaws.{follows_as, follows_read, follows_unread}
use Rattle.desktop_session.proofs.open_db.OpenDb.read_sort.Goals as goal

pub returns-clause-follows : goal.returns-clause-follows
returns-clause-follows g c = follows_read g.met.L.Link.heard_none g.met.L.Link.heard_more (reading_sort c.args.self.now.handle).asks
    (λ read. or_none (said_in 0x1D block_of read)) (follows_as (search rules) c.in_ok-ask.ensures.follows)
    (copy_follows (λ copy. copy.items) (λ block. block.now) (λ bytes. said_in 0x1D block_of (reply_at 0x1D bytes)) c.copy_of.result c.sort_in.result
    c.reply.ensures c.sort_in.ensures c.copy_of.ensures)

pub returns-in_err-ask-clause-follows : goal.returns-in_err-ask-clause-follows
returns-in_err-ask-clause-follows g c =
    let p = err_from_is_err_and c.from_residual.result c.from_residual.ensures.1 in
    rw (p.1, p.2) (follows_unread g.met.L.Link.heard_none g.met.L.Link.heard_more (reading_sort c.args.self.now.handle).asks
    (λ read. or_none (said_in 0x1D block_of read)) (follows_as (search rules) c.in_err-ask.ensures.follows))
