-- What is lent keeps the bounds of a record, and is seen as it is.
use Rattle.std.proofs.Common.{◌≡◌, ◌∙◌, ◌∷◌, [], ap, refl, sym}
use Rattle.std.specs.Prelude.{Ok, Err}
use Rattle.dlp_replies.specs.ReplyReading.{reply_at}
use Rattle.conduit_rules.specs.declared.view.Seen.{Seen}
use Rattle.desktop_session.specs.Answers.{answer_by, record_of, said_in}
use Rattle.desktop_session.specs.Lent.{lent_value}
use Rattle.mirrors.proofs.EntryLaws.{bounded_id, lent_seen, lent_short, record_short}
use Rattle.desktop_session.proofs.LastLaws.{last_refused}
use Rattle.mirrors.proofs.PartFollows.{then_ends, then_lost, then_made}
use Rattle.mirrors.specs.Entries.{seen_of}
use Rattle.std.proofs.lemmas.Result.{err_from_is_err_and}
use Rattle.mirrors.proofs.slow_reading.read_at.Goals as goal

pub entry_of-requires : goal.entry_of-requires
entry_of-requires g c =
    let last = c.at.follows.lender-at-none in
    let said = answer_by (g.L.Link.fault last.linked.now.link) (said_in 0x20 record_of (reply_at 0x20 last.linked.now.reply)) in
    let gives : said ≡ Ok (lent_value c.in-Ok.lent) = rw c.in-Ok.is at c.at.follows.holds-at-none.3 in
    (lent_short 0x20 _ _ (record_short last.linked.now.reply) gives).bytes

pub returns-in_ok-entry_of-in-Ok-clause-seen : goal.returns-in_ok-entry_of-in-Ok-clause-seen
returns-in_ok-entry_of-in-Ok-clause-seen g c =
    let last = c.at.follows.lender-at-none in
    let said = answer_by (g.L.Link.fault last.linked.now.link) (said_in 0x20 record_of (reply_at 0x20 last.linked.now.reply)) in
    let gives : said ≡ Ok (lent_value c.in-Ok.lent) = rw c.in-Ok.is at c.at.follows.holds-at-none.3 in
    (lent_seen 0x20 _ _ gives).1 ∙ ap (λ (s : Seen). s ∷ []) (sym c.in_ok-entry_of-in-Ok.ensures)

pub returns-in_ok-entry_of-in-Ok-clause-bounded : goal.returns-in_ok-entry_of-in-Ok-clause-bounded
returns-in_ok-entry_of-in-Ok-clause-bounded g c =
    let last = c.at.follows.lender-at-none in
    let said = answer_by (g.L.Link.fault last.linked.now.link) (said_in 0x20 record_of (reply_at 0x20 last.linked.now.reply)) in
    let gives : said ≡ Ok (lent_value c.in-Ok.lent) = rw c.in-Ok.is at c.at.follows.holds-at-none.3 in
    let short = lent_short 0x20 _ _ (record_short last.linked.now.reply) gives in
    rw (ap (λ (s : Seen). s.id) c.in_ok-entry_of-in-Ok.ensures) (bounded_id c.in-Ok.lent.id short.id)

pub returns-in-Err-clause-last : goal.returns-in-Err-clause-last
returns-in-Err-clause-last g c =
    let gives = rw c.in-Err.is at c.at.follows.holds-at-none.3 in
    last_refused record_of c.in-Err.fault refl c.at.follows.holds-at-none.2 (sym gives)

pub returns-in_ok-entry_of-in-Ok-clause-follows : goal.returns-in_ok-entry_of-in-Ok-clause-follows
returns-in_ok-entry_of-in-Ok-clause-follows g c =
    let last = c.at.follows.lender-at-none in
    let said = answer_by (g.L.Link.fault last.linked.now.link) (said_in 0x20 record_of (reply_at 0x20 last.linked.now.reply)) in
    let gives : said ≡ Ok (lent_value c.in-Ok.lent) = rw c.in-Ok.is at c.at.follows.holds-at-none.3 in
    rw c.in_ok-entry_of-in-Ok.ensures
    (then_made g.met.L.Link.heard_none g.met.L.Link.heard_more seen_of (Ok (lent_value c.in-Ok.lent)) (rw gives at c.at.follows.holds-at-none.5))

pub returns-in_err-entry_of-in-Ok-clause-follows : goal.returns-in_err-entry_of-in-Ok-clause-follows
returns-in_err-entry_of-in-Ok-clause-follows g c =
    let p = err_from_is_err_and c.from_residual.result c.from_residual.ensures.1 in
    let last = c.at.follows.lender-at-none in
    let said = answer_by (g.L.Link.fault last.linked.now.link) (said_in 0x20 record_of (reply_at 0x20 last.linked.now.reply)) in
    let gives : said ≡ Ok (lent_value c.in-Ok.lent) = rw c.in-Ok.is at c.at.follows.holds-at-none.3 in
    rw (p.1, p.2) (then_lost g.met.L.Link.heard_none g.met.L.Link.heard_more _ (rw gives at c.at.follows.holds-at-none.5))

pub returns-in-Err-clause-follows : goal.returns-in-Err-clause-follows
returns-in-Err-clause-follows g c =
    let last = c.at.follows.lender-at-none in
    let said = answer_by (g.L.Link.fault last.linked.now.link) (said_in 0x20 record_of (reply_at 0x20 last.linked.now.reply)) in
    let gives : said ≡ Err c.in-Err.fault = rw c.in-Err.is at c.at.follows.holds-at-none.3 in
    then_ends g.met.L.Link.heard_none g.met.L.Link.heard_more _ (rw gives at c.at.follows.holds-at-none.5)
