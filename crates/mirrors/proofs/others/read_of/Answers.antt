-- What is lent keeps the bounds of a record, and is seen as it is.
use Rattle.std.proofs.Common.{◌≡◌, ◌∙◌, ◌∷◌, [], map, ap, sym, subst}
use Rattle.std.specs.Prelude.{Ok, Err, Some, None}
use Rattle.std.specs.Option.{option_map}
use Rattle.dlp_args.specs.Views.{Gives}
use Rattle.dlp_replies.specs.ReplyReading.{reply_at}
use Rattle.conduit_rules.specs.declared.view.Seen.{Seen}
use Rattle.desktop_session.specs.Answers.{answer_by, or_none, record_of, said_in}
use Rattle.desktop_session.specs.Lent.{lent_value}
use Rattle.mirrors.specs.Entries.{seen_in}
use Rattle.mirrors.proofs.EntryLaws.{record_short}
use Rattle.mirrors.proofs.LentLaws.{found_seen, found_short}
use Rattle.desktop_session.proofs.LastLaws.{last_found}
use Rattle.desktop_session.specs.Following.{Follows}
use Rattle.mirrors.specs.ReadInquiries.{reads_of, seen_as}
use Rattle.mirrors.proofs.PartFollows.{then_ends, then_lost, then_made}
use Rattle.std.proofs.lemmas.Result.{err_from_is_err_and}
use Rattle.mirrors.proofs.others.read_of.Goals as goal

pub entry_of-requires : goal.entry_of-requires
entry_of-requires g c =
    let last = c.by_id.follows.lender-at-none in
    let said = answer_by (g.L.Link.fault last.linked.now.link) (or_none (said_in 0x20 record_of (reply_at 0x20 last.linked.now.reply))) in
    let gives : said ≡ Ok (Some (lent_value c.in-Ok-Some.lent)) =
    rw c.in-Ok-Some.is at c.by_id.follows.holds-at-none.3
    ∙ ap (λ o. Ok (option_map lent_value o)) c.in-Ok-Some.field-0-is in
    (found_short 0x20 _ _ (record_short last.linked.now.reply) gives).bytes

pub returns-in_ok-state-in-Ok-Some-clause-seen : goal.returns-in_ok-state-in-Ok-Some-clause-seen
returns-in_ok-state-in-Ok-Some-clause-seen g c =
    let last = c.by_id.follows.lender-at-none in
    let said = answer_by (g.L.Link.fault last.linked.now.link) (or_none (said_in 0x20 record_of (reply_at 0x20 last.linked.now.reply))) in
    let gives : said ≡ Ok (Some (lent_value c.in-Ok-Some.lent)) =
    subst (λ r. Gives (option_map lent_value) r said) c.in-Ok-Some.is c.by_id.follows.holds-at-none.3
    ∙ ap (λ o. Ok (option_map lent_value o)) c.in-Ok-Some.field-0-is in
    let seen : seen_in (reply_at 0x20 last.linked.now.reply) ≡ c.in_ok-state-in-Ok-Some.field-0 ∷ [] =
    found_seen 0x20 _ _ gives ∙ ap (λ (s : Seen). s ∷ []) (sym c.in_ok-state-in-Ok-Some.ensures) in
    ap (map (λ (entry : Seen). record entry { id = c.args.id })) (sym seen)

pub returns-in-Err-clause-last : goal.returns-in-Err-clause-last
returns-in-Err-clause-last g c =
    let gives = rw c.in-Err.is at c.by_id.follows.holds-at-none.3 in
    last_found record_of c.in-Err.fault c.by_id.follows.holds-at-none.2 (sym gives)

pub returns-in_ok-state-in-Ok-Some-clause-follows : goal.returns-in_ok-state-in-Ok-Some-clause-follows
returns-in_ok-state-in-Ok-Some-clause-follows g c =
    let last = c.by_id.follows.lender-at-none in
    let said = answer_by (g.L.Link.fault last.linked.now.link) (or_none (said_in 0x20 record_of (reply_at 0x20 last.linked.now.reply))) in
    let gives : said ≡ Ok (Some (lent_value c.in-Ok-Some.lent)) =
    subst (λ r. Gives (option_map lent_value) r said) c.in-Ok-Some.is c.by_id.follows.holds-at-none.3
    ∙ ap (λ o. Ok (option_map lent_value o)) c.in-Ok-Some.field-0-is in
    subst (λ (s : Seen). Follows g.L.Link (reads_of c.args.db.now.handle c.args.id) c.args.db.now.linked.now.link last.linked.now.link
    (Ok (Some (record s { id = c.args.id })))) (sym c.in_ok-state-in-Ok-Some.ensures)
    (then_made g.met.L.Link.heard_none g.met.L.Link.heard_more (option_map (seen_as c.args.id)) (Ok (Some (lent_value c.in-Ok-Some.lent)))
    (rw gives at c.by_id.follows.holds-at-none.5))

pub returns-in_err-state-in-Ok-Some-clause-follows : goal.returns-in_err-state-in-Ok-Some-clause-follows
returns-in_err-state-in-Ok-Some-clause-follows g c =
    let p = err_from_is_err_and c.from_residual.result c.from_residual.ensures.1 in
    let last = c.by_id.follows.lender-at-none in
    let said = answer_by (g.L.Link.fault last.linked.now.link) (or_none (said_in 0x20 record_of (reply_at 0x20 last.linked.now.reply))) in
    let gives : said ≡ Ok (Some (lent_value c.in-Ok-Some.lent)) =
    rw c.in-Ok-Some.is at c.by_id.follows.holds-at-none.3
    ∙ ap (λ o. Ok (option_map lent_value o)) c.in-Ok-Some.field-0-is in
    rw (p.1, p.2) (then_lost g.met.L.Link.heard_none g.met.L.Link.heard_more _ (rw gives at c.by_id.follows.holds-at-none.5))

pub returns-in-Ok-None-clause-follows : goal.returns-in-Ok-None-clause-follows
returns-in-Ok-None-clause-follows g c =
    let last = c.by_id.follows.lender-at-none in
    let said = answer_by (g.L.Link.fault last.linked.now.link) (or_none (said_in 0x20 record_of (reply_at 0x20 last.linked.now.reply))) in
    let gives : said ≡ Ok None =
    rw c.in-Ok-None.is at c.by_id.follows.holds-at-none.3
    ∙ ap (λ o. Ok (option_map lent_value o)) c.in-Ok-None.field-0-is in
    then_made g.met.L.Link.heard_none g.met.L.Link.heard_more (option_map (seen_as c.args.id)) (Ok None)
    (rw gives at c.by_id.follows.holds-at-none.5)

pub returns-in-Err-clause-follows : goal.returns-in-Err-clause-follows
returns-in-Err-clause-follows g c =
    let last = c.by_id.follows.lender-at-none in
    let said = answer_by (g.L.Link.fault last.linked.now.link) (or_none (said_in 0x20 record_of (reply_at 0x20 last.linked.now.reply))) in
    let gives : said ≡ Err c.in-Err.fault = rw c.in-Err.is at c.by_id.follows.holds-at-none.3 in
    then_ends g.met.L.Link.heard_none g.met.L.Link.heard_more _ (rw gives at c.by_id.follows.holds-at-none.5)
