-- A reading grows by one.
use Rattle.std.proofs.Common.{◌∙◌, ◌+◌, ◌≤◌, ◌∷◌, ◌++◌, [], ap, refl, sym, arith}
use Rattle.std.proofs.lemmas.Result.{err_from_is_err_and}
use Rattle.pdb_values.specs.Databases.{DatabaseValue}
use Rattle.dlp_replies.specs.ReplyReading.{reply_at}
use Rattle.desktop_session.specs.Requests.{reading_resource}
use Rattle.install_backup.specs.Copies.{resources_in}
use Rattle.install_backup.proofs.EachRead.{resource_same, reads_none, reads_on, reads_part, reads_stop, told_begin, told_grows}
use Rattle.install_backup.proofs.copying.read_resources.Goals as goal

pub loop-index-init : goal.loop-index-init
loop-index-init g c = record {
  reference = refl;
  handle = refl;
  said = reads_none (reading_resource c.args.db.now.handle) g.met.L.Link.since_itself;
  rest = refl;
  told = told_begin (reading_resource c.args.db.now.handle) (λ bytes. resources_in (reply_at 0x23 bytes)) (g.L.Link.talk c.args.db.now.linked.now.link) _ c.requires.none;
}

pub loop-index-preserved : goal.loop-index-preserved
loop-index-preserved g c =
    let before = c.loop-index.invariant in
    let handle = c.args.db.now.handle in
    let asked = rw before.handle at c.in_ok-resource.ensures.asked in
    record {
      reference = cc;
      handle = cc;
      said = reads_on (reading_resource handle) g.met.L.Link.since_more c.loop-index.index c.in_ok-resource.ensures.none before.said asked;
      rest = c.in_ok-push_resource.ensures.ok
          ∙ ap (λ (d : DatabaseValue). record d { resources = c.loop-index.made.resources ++ c.in_ok-resource.resource ∷ [] }) before.rest
          ∙ sym (ap (λ (d : DatabaseValue). record c.args.made { resources = d.resources }) c.in_ok-push_resource.ensures.ok);
      told = rw (ap (λ (d : DatabaseValue). d.resources) c.in_ok-push_resource.ensures.ok) (told_grows (reading_resource handle) (resource_same handle)
          (λ bytes. resources_in (reply_at 0x23 bytes)) (g.L.Link.talk c.args.db.now.linked.now.link) c.loop-index.index c.loop-index.made.resources
          c.in_ok-resource.resource c.read_resource.new.db.linked.now.reply before.said.does.said (asked.told c.in_ok-resource.ensures.none)
          c.in_ok-resource.ensures.told before.told);
    }

pub returns-in_err-resource-clause-asks : goal.returns-in_err-resource-clause-asks
returns-in_err-resource-clause-asks g c =
    let p = err_from_is_err_and c.from_residual.result c.from_residual.ensures.1 in
    let before = c.loop-index.invariant in
    rw (p.1, p.2) (reads_stop (reading_resource c.args.db.now.handle) g.met.L.Link.since_more c.loop-index.index c.args.count _ (omega arith) before.said
    (rw before.handle at c.in_err-resource.ensures.asked))

pub returns-in_err-push_resource-clause-asks : goal.returns-in_err-push_resource-clause-asks
returns-in_err-push_resource-clause-asks g c =
    let p = err_from_is_err_and c.from_residual-in_err-push_resource.result c.from_residual-in_err-push_resource.ensures.1 in
    let before = c.loop-index.invariant in
    let within : c.loop-index.index + 1 ≤ c.args.count = omega arith in
    rw (p.1, p.2) (reads_part (reading_resource c.args.db.now.handle) (c.loop-index.index + 1) c.args.count _ within
    (reads_on (reading_resource c.args.db.now.handle) g.met.L.Link.since_more c.loop-index.index c.in_ok-resource.ensures.none before.said
    (rw before.handle at c.in_ok-resource.ensures.asked)))
