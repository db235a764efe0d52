-- A reading grows by one.
use Rattle.std.proofs.Common.{◌∙◌, ◌+◌, ◌≤◌, ◌∷◌, ◌++◌, [], ap, refl, sym, arith}
use Rattle.std.proofs.lemmas.Result.{err_from_is_err_and}
use Rattle.pdb_values.specs.Databases.{DatabaseValue}
use Rattle.dlp_replies.specs.ReplyReading.{reply_at}
use Rattle.desktop_session.specs.Requests.{reading_at}
use Rattle.install_backup.specs.Copies.{records_in}
use Rattle.install_backup.proofs.EachRead.{at_same, reads_none, reads_on, reads_part, reads_stop, told_begin, told_grows}
use Rattle.install_backup.proofs.copying.read_records.Goals as goal

pub loop-index-init : goal.loop-index-init
loop-index-init g c = record {
  reference = refl;
  handle = refl;
  said = reads_none (reading_at c.args.db.now.handle) g.met.L.Link.since_itself;
  rest = refl;
  told = told_begin (reading_at c.args.db.now.handle) (λ bytes. records_in (reply_at 0x20 bytes)) (g.L.Link.talk c.args.db.now.linked.now.link) _ c.requires.none;
}

pub loop-index-preserved : goal.loop-index-preserved
loop-index-preserved g c =
    let before = c.loop-index.invariant in
    let handle = c.args.db.now.handle in
    let asked = rw before.handle at c.in_ok-item.ensures.asked in
    record {
      reference = cc;
      handle = cc;
      said = reads_on (reading_at handle) g.met.L.Link.since_more c.loop-index.index c.in_ok-item.ensures.none before.said asked;
      rest = c.in_ok-push_record.ensures.ok
          ∙ ap (λ (d : DatabaseValue). record d { records = c.loop-index.made.records ++ c.in_ok-item.item ∷ [] }) before.rest
          ∙ sym (ap (λ (d : DatabaseValue). record c.args.made { records = d.records }) c.in_ok-push_record.ensures.ok);
      told = rw (ap (λ (d : DatabaseValue). d.records) c.in_ok-push_record.ensures.ok) (told_grows (reading_at handle) (at_same handle)
          (λ bytes. records_in (reply_at 0x20 bytes)) (g.L.Link.talk c.args.db.now.linked.now.link) c.loop-index.index c.loop-index.made.records
          c.in_ok-item.item c.read_record.new.db.linked.now.reply before.said.does.said (asked.told c.in_ok-item.ensures.none)
          c.in_ok-item.ensures.told before.told);
    }

pub returns-in_err-item-clause-asks : goal.returns-in_err-item-clause-asks
returns-in_err-item-clause-asks g c =
    let p = err_from_is_err_and c.from_residual.result c.from_residual.ensures.1 in
    let before = c.loop-index.invariant in
    rw (p.1, p.2) (reads_stop (reading_at c.args.db.now.handle) g.met.L.Link.since_more c.loop-index.index c.args.count _ (omega arith) before.said
    (rw before.handle at c.in_err-item.ensures.asked))

pub returns-in_err-push_record-clause-asks : goal.returns-in_err-push_record-clause-asks
returns-in_err-push_record-clause-asks g c =
    let p = err_from_is_err_and c.from_residual-in_err-push_record.result c.from_residual-in_err-push_record.ensures.1 in
    let before = c.loop-index.invariant in
    let within : c.loop-index.index + 1 ≤ c.args.count = omega arith in
    rw (p.1, p.2) (reads_part (reading_at c.args.db.now.handle) (c.loop-index.index + 1) c.args.count _ within
    (reads_on (reading_at c.args.db.now.handle) g.met.L.Link.since_more c.loop-index.index c.in_ok-item.ensures.none before.said
    (rw before.handle at c.in_ok-item.ensures.asked)))
