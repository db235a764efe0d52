-- What is lent keeps the bounds of a record, and is seen as it is.
use Rattle.std.proofs.Common.{◌≡◌, ◌∙◌, ◌∷◌, [], ap, sym}
use Rattle.std.specs.Prelude.{Ok, Err, Some, None}
use Rattle.std.specs.Option.{option_map}
use Rattle.dlp_replies.specs.ReplyReading.{reply_at}
use Rattle.conduit_rules.specs.declared.view.Seen.{Seen}
use Rattle.desktop_session.specs.Answers.{answer_by, or_none, record_of, said_in}
use Rattle.desktop_session.specs.Lent.{lent_value}
use Rattle.mirrors.proofs.EntryLaws.{bounded_id, next_short}
use Rattle.mirrors.proofs.LentLaws.{found_seen, found_short}
use Rattle.desktop_session.proofs.LastLaws.{last_found}
use Rattle.mirrors.proofs.PartFollows.{then_ends, then_lost, then_made}
use Rattle.mirrors.specs.Entries.{seen_of}
use Rattle.std.proofs.lemmas.Result.{err_from_is_err_and}
use Rattle.mirrors.proofs.changed.read_next.Goals as goal

pub entry_of-requires : goal.entry_of-requires
entry_of-requires g c =
    let last = c.next_changed.follows.lender-at-none in
    let said = answer_by (g.L.Link.fault last.linked.now.link) (or_none (said_in 0x1F record_of (reply_at 0x1F last.linked.now.reply))) in
    let gives : said ≡ Ok (Some (lent_value c.in-Ok-Some.lent)) =
    rw c.in-Ok-Some.is at c.next_changed.follows.holds-at-none.3
    ∙ ap (λ o. Ok (option_map lent_value o)) c.in-Ok-Some.field-0-is in
    (found_short 0x1F _ _ (next_short last.linked.now.reply) gives).bytes

pub returns-in_ok-entry_of-in-Ok-Some-clause-seen : goal.returns-in_ok-entry_of-in-Ok-Some-clause-seen
returns-in_ok-entry_of-in-Ok-Some-clause-seen g c =
    let last = c.next_changed.follows.lender-at-none in
    let said = answer_by (g.L.Link.fault last.linked.now.link) (or_none (said_in 0x1F record_of (reply_at 0x1F last.linked.now.reply))) in
    let gives : said ≡ Ok (Some (lent_value c.in-Ok-Some.lent)) =
    rw c.in-Ok-Some.is at c.next_changed.follows.holds-at-none.3
    ∙ ap (λ o. Ok (option_map lent_value o)) c.in-Ok-Some.field-0-is in
    found_seen 0x1F _ _ gives ∙ ap (λ (s : Seen). s ∷ []) (sym c.in_ok-entry_of-in-Ok-Some.ensures)

pub returns-in_ok-entry_of-in-Ok-Some-clause-bounded : goal.returns-in_ok-entry_of-in-Ok-Some-clause-bounded
returns-in_ok-entry_of-in-Ok-Some-clause-bounded g c =
    let last = c.next_changed.follows.lender-at-none in
    let said = answer_by (g.L.Link.fault last.linked.now.link) (or_none (said_in 0x1F record_of (reply_at 0x1F last.linked.now.reply))) in
    let gives : said ≡ Ok (Some (lent_value c.in-Ok-Some.lent)) =
    rw c.in-Ok-Some.is at c.next_changed.follows.holds-at-none.3
    ∙ ap (λ o. Ok (option_map lent_value o)) c.in-Ok-Some.field-0-is in
    let short = found_short 0x1F _ _ (next_short last.linked.now.reply) gives in
    rw (ap (λ (s : Seen). s.id) c.in_ok-entry_of-in-Ok-Some.ensures) (bounded_id c.in-Ok-Some.lent.id short.id)

pub returns-in-Err-clause-last : goal.returns-in-Err-clause-last
returns-in-Err-clause-last g c =
    let gives = rw c.in-Err.is at c.next_changed.follows.holds-at-none.3 in
    last_found record_of c.in-Err.fault c.next_changed.follows.holds-at-none.2 (sym gives)

pub returns-in_ok-entry_of-in-Ok-Some-clause-follows : goal.returns-in_ok-entry_of-in-Ok-Some-clause-follows
returns-in_ok-entry_of-in-Ok-Some-clause-follows g c =
    let last = c.next_changed.follows.lender-at-none in
    let said = answer_by (g.L.Link.fault last.linked.now.link) (or_none (said_in 0x1F record_of (reply_at 0x1F last.linked.now.reply))) in
    let gives : said ≡ Ok (Some (lent_value c.in-Ok-Some.lent)) =
    rw c.in-Ok-Some.is at c.next_changed.follows.holds-at-none.3
    ∙ ap (λ o. Ok (option_map lent_value o)) c.in-Ok-Some.field-0-is in
    rw c.in_ok-entry_of-in-Ok-Some.ensures
    (then_made g.met.L.Link.heard_none g.met.L.Link.heard_more (option_map seen_of) (Ok (Some (lent_value c.in-Ok-Some.lent)))
    (rw gives at c.next_changed.follows.holds-at-none.5))

pub returns-in_err-entry_of-in-Ok-Some-clause-follows : goal.returns-in_err-entry_of-in-Ok-Some-clause-follows
returns-in_err-entry_of-in-Ok-Some-clause-follows g c =
    let p = err_from_is_err_and c.from_residual.result c.from_residual.ensures.1 in
    let last = c.next_changed.follows.lender-at-none in
    let said = answer_by (g.L.Link.fault last.linked.now.link) (or_none (said_in 0x1F record_of (reply_at 0x1F last.linked.now.reply))) in
    let gives : said ≡ Ok (Some (lent_value c.in-Ok-Some.lent)) =
    rw c.in-Ok-Some.is at c.next_changed.follows.holds-at-none.3
    ∙ ap (λ o. Ok (option_map lent_value o)) c.in-Ok-Some.field-0-is in
    rw (p.1, p.2) (then_lost g.met.L.Link.heard_none g.met.L.Link.heard_more _ (rw gives at c.next_changed.follows.holds-at-none.5))

pub returns-in-Ok-None-clause-follows : goal.returns-in-Ok-None-clause-follows
returns-in-Ok-None-clause-follows g c =
    let last = c.next_changed.follows.lender-at-none in
    let said = answer_by (g.L.Link.fault last.linked.now.link) (or_none (said_in 0x1F record_of (reply_at 0x1F last.linked.now.reply))) in
    let gives : said ≡ Ok None =
    rw c.in-Ok-None.is at c.next_changed.follows.holds-at-none.3
    ∙ ap (λ o. Ok (option_map lent_value o)) c.in-Ok-None.field-0-is in
    then_made g.met.L.Link.heard_none g.met.L.Link.heard_more (option_map seen_of) (Ok None) (rw gives at c.next_changed.follows.holds-at-none.5)

pub returns-in-Err-clause-follows : goal.returns-in-Err-clause-follows
returns-in-Err-clause-follows g c =
    let last = c.next_changed.follows.lender-at-none in
    let said = answer_by (g.L.Link.fault last.linked.now.link) (or_none (said_in 0x1F record_of (reply_at 0x1F last.linked.now.reply))) in
    let gives : said ≡ Err c.in-Err.fault = rw c.in-Err.is at c.next_changed.follows.holds-at-none.3 in
    then_ends g.met.L.Link.heard_none g.met.L.Link.heard_more _ (rw gives at c.next_changed.follows.holds-at-none.5)
