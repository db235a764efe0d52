-- The one request that may give an id.
use Rattle.std.proofs.Common.{◌∙◌, ap, ℕ, List, arith}
use Rattle.std.proofs.lemmas.Result.{err_from_is_err_and}
use Rattle.desktop_session.proofs.RequestFits.{putting_fits}
use Rattle.dlp_replies.specs.ReplyReading.{reply_at}
use Rattle.desktop_session.specs.Answers.{id_of, said_in}
use Rattle.desktop_session.specs.Requests.{putting, secret_bit}
use Rattle.desktop_session.proofs.FollowLaws.{follows_as, follows_by, follows_unread}
use Rattle.desktop_session.proofs.PutLaws.{puts_at, put_value}
use Rattle.desktop_session.proofs.linked.Linked.ask_to_put.Goals as goal

pub returns-clause-puts : goal.returns-clause-puts
returns-clause-puts g c =
    let value = put_value c.args.handle c.args.content.now
    c.number.ensures.number (c.bits_of.ensures ∙ ap secret_bit c.secret.ensures) (c.number-2.ensures.number ∙ c.category.ensures) c.bytes.ensures.bytes in
    puts_at
    value
    (record {
      fits = rw value (putting_fits c.args.handle c.args.id c.args.content.now (omega arith) (omega
          (arith, c.number.ensures.number, c.number.ensures.bound))
          (omega (arith, c.number-2.ensures.number, c.number-2.ensures.bound, c.category.ensures))
          (rw (← c.bytes.ensures.bytes) c.bytes.ensures.bound));
      asked = c.in_ok-ask.ensures.asked;
      stops = c.in_ok-ask.ensures.stops;
      answered = c.in_ok-ask.ensures.answered;
      user = c.in_ok-ask.ensures.rest.0;
      abandoned = c.in_ok-ask.ensures.rest.1;
    })
    (c.id_in.ensures ∙ ap (λ (bytes : List ℕ). said_in 0x21 id_of (reply_at 0x21 bytes)) c.reply.ensures)

pub returns-clause-follows : goal.returns-clause-follows
returns-clause-follows g c =
    let value = put_value c.args.handle c.args.content.now
    c.number.ensures.number (c.bits_of.ensures ∙ ap secret_bit c.secret.ensures) (c.number-2.ensures.number ∙ c.category.ensures) c.bytes.ensures.bytes in
    follows_by g.met.L.Link.heard_none g.met.L.Link.heard_more (putting 0 c.args.handle c.args.id c.args.content.now).asks (said_in 0x21 id_of)
    (follows_as value c.in_ok-ask.ensures.follows) c.reply.ensures c.id_in.ensures

pub returns-in_err-ask-clause-follows : goal.returns-in_err-ask-clause-follows
returns-in_err-ask-clause-follows g c =
    let value = put_value c.args.handle c.args.content.now
    c.number.ensures.number (c.bits_of.ensures ∙ ap secret_bit c.secret.ensures) (c.number-2.ensures.number ∙ c.category.ensures) c.bytes.ensures.bytes in
    let p = err_from_is_err_and c.from_residual.result c.from_residual.ensures.1 in
    rw (p.1, p.2) (follows_unread g.met.L.Link.heard_none g.met.L.Link.heard_more (putting 0 c.args.handle c.args.id c.args.content.now).asks
    (said_in 0x21 id_of) (follows_as value c.in_err-ask.ensures.follows))
