-- What is lent keeps the bounds of a record, and is copied as it is.
use Rattle.std.proofs.Common.{◌≡◌, ◌∙◌, ◌∷◌, [], ap, sym, refl}
use Rattle.std.specs.Prelude.{Ok}
use Rattle.pdb_values.specs.declared.record.Record.{Record}
use Rattle.dlp_replies.specs.ReplyReading.{reply_at}
use Rattle.desktop_session.specs.Answers.{answer_by, record_of, said_in}
use Rattle.desktop_session.specs.Lent.{lent_value}
use Rattle.mirrors.proofs.EntryLaws.{lent_short, record_short}
use Rattle.install_backup.proofs.CopyLaws.{lent_record}
use Rattle.session_parts.proofs.CauseLaws.{later_refused}
use Rattle.install_backup.proofs.copying.read_record.Goals as goal

pub record_from-requires : goal.record_from-requires
record_from-requires g c =
    let last = c.at.follows.lender-at-none in
    let said = answer_by (g.L.Link.fault last.linked.now.link) (said_in 0x20 record_of (reply_at 0x20 last.linked.now.reply)) in
    let gives : said ≡ Ok (lent_value c.in-Ok.lent) = rw c.in-Ok.is at c.at.follows.holds-at-none.3 in
    (lent_short 0x20 _ _ (record_short last.linked.now.reply) gives).bytes

pub returns-in_ok-record_from-in-Ok-clause-told : goal.returns-in_ok-record_from-in-Ok-clause-told
returns-in_ok-record_from-in-Ok-clause-told g c =
    let last = c.at.follows.lender-at-none in
    let said = answer_by (g.L.Link.fault last.linked.now.link) (said_in 0x20 record_of (reply_at 0x20 last.linked.now.reply)) in
    let gives : said ≡ Ok (lent_value c.in-Ok.lent) = rw c.in-Ok.is at c.at.follows.holds-at-none.3 in
    lent_record 0x20 _ _ gives ∙ ap (λ (item : Record). item ∷ []) (sym c.in_ok-record_from-in-Ok.ensures)

pub returns-in-Err-clause-cause : goal.returns-in-Err-clause-cause
returns-in-Err-clause-cause g c =
    let gives = rw c.in-Err.is at c.at.follows.holds-at-none.3 in
    later_refused record_of c.in-Err.fault refl c.at.follows.holds-at-none.2 (sym gives)
