-- The block of an open database is read, and the merged one written.
use Rattle.std.proofs.Common.{◌≡◌, ◌∙◌, Ok, ap, refl, rules}
use Rattle.std.proofs.lemmas.Result.{err_from_is_err_and}
use Rattle.std.specs.Option.{option_copied}
use Rattle.std.specs.Prelude.{List, Option, ℕ}
use Rattle.pdb_values.specs.Blocks.{block_of}
use Rattle.dlp_replies.specs.ReplyReading.{reply_at}
use Rattle.desktop_session.specs.Requests.{reading_app}
use Rattle.mirrors.proofs.AskLaws.{asks_other, asks_refused}
use Rattle.category_mirror.specs.Blocks.{MergeValue, blocks_merge, written_block}
use Rattle.category_mirror.proofs.FileLaws.{app_is, asked_only, asks_behind, block_said, filed_asks, unread_asks}
use Rattle.std.specs.Global.{Vec}
use Rattle.session_parts.proofs.CauseLaws.{later_copy}
use Rattle.category_mirror.proofs.filing.file_open.Goals as goal

pub returns-in_err-app-clause-asks : goal.returns-in_err-app-clause-asks
returns-in_err-app-clause-asks g c =
    let p = err_from_is_err_and c.from_residual.result c.from_residual.ensures.1 in
    rw (p.1, p.2) (unread_asks (option_copied c.args.rows_app) c.args.db.now.handle _ c.in_err-app.ensures.asked)

pub returns-in_err-merge-clause-asks : goal.returns-in_err-merge-clause-asks
returns-in_err-merge-clause-asks g c =
    let p = err_from_is_err_and c.from_residual-in_err-merge.result c.from_residual-in_err-merge.ensures.1 in
    let handle = c.args.db.now.handle in
    let old = c.args.db.now.linked.now in
    let first = c.read_app.new.self.linked.now in
    let rows_app = option_copied c.args.rows_app in
    let block = block_of c.in_ok-app.app in
    let app = block_said (g.L.Link.fault first.link) (reply_at 0x1B first.reply) block c.in_ok-app.ensures.answer in
    let told = app_is (g.L.Link.talk old.link) handle first.reply block (c.in_ok-app.ensures.asked.told app.0) app.1 in
    rw (p.1, p.2) (filed_asks rows_app block handle (g.L.Link.talk old.link) refl told (asked_only (reading_app handle) _ _ app.0 c.in_ok-app.ensures.asked))

pub returns-in_err-written-clause-asks : goal.returns-in_err-written-clause-asks
returns-in_err-written-clause-asks g c =
    let p = err_from_is_err_and c.from_residual-in_err-written.result c.from_residual-in_err-written.ensures.1 in
    let handle = c.args.db.now.handle in
    let old = c.args.db.now.linked.now in
    let first = c.read_app.new.self.linked.now in
    let rows_app = option_copied c.args.rows_app in
    let block = block_of c.in_ok-app.app in
    let app = block_said (g.L.Link.fault first.link) (reply_at 0x1B first.reply) block c.in_ok-app.ensures.answer in
    let told = app_is (g.L.Link.talk old.link) handle first.reply block (c.in_ok-app.ensures.asked.told app.0) app.1 in
    rw (p.1, p.2) (filed_asks rows_app block handle (g.L.Link.talk old.link) refl told (asked_only (reading_app handle) _ _ app.0 c.in_ok-app.ensures.asked))

pub returns-in_err-write_where-clause-asks : goal.returns-in_err-write_where-clause-asks
returns-in_err-write_where-clause-asks g c =
    let p = err_from_is_err_and c.from_residual-in_err-write_where.result c.from_residual-in_err-write_where.ensures.1 in
    let handle = c.args.db.now.handle in
    let old = c.args.db.now.linked.now in
    let first = c.read_app.new.self.linked.now in
    let rows_app = option_copied c.args.rows_app in
    let block = block_of c.in_ok-app.app in
    let app = block_said (g.L.Link.fault first.link) (reply_at 0x1B first.reply) block c.in_ok-app.ensures.answer in
    let told = app_is (g.L.Link.talk old.link) handle first.reply block (c.in_ok-app.ensures.asked.told app.0) app.1 in
    let found : option_copied c.as_deref.result ≡ block = search rules in
    let again : option_copied c.as_deref-2.result ≡ block = search rules in
    let kept : option_copied c.as_deref-3.result ≡ block_of c.in_ok-written.written = search rules in
    let merge : c.in_ok-merge.merge ≡ blocks_merge block rows_app =
    c.in_ok-merge.ensures ∙ ap (λ (b : Option (List ℕ)). blocks_merge b rows_app) found in
    let written : option_copied c.as_deref-3.result ≡ written_block block (blocks_merge block rows_app) =
    kept ∙ c.in_ok-written.ensures ∙ ap (λ (b : Option (List ℕ)). written_block b c.in_ok-merge.merge) again
    ∙ ap (λ (m : Option MergeValue). written_block block m) merge in
    let asks = rw (c.in_ok-app.ensures.same_handle, written) at c.in_err-write_where.ensures.asks in
    rw (p.1, p.2) (filed_asks rows_app block handle (g.L.Link.talk old.link) refl told
    (asks_behind g.met.L.Link.since_more (reading_app handle) _ app.0 c.in_ok-app.ensures.asked (asks_refused asks)))

pub returns-clause-asks : goal.returns-clause-asks
returns-clause-asks g c =
    let handle = c.args.db.now.handle in
    let old = c.args.db.now.linked.now in
    let first = c.read_app.new.self.linked.now in
    let rows_app = option_copied c.args.rows_app in
    let block = block_of c.in_ok-app.app in
    let app = block_said (g.L.Link.fault first.link) (reply_at 0x1B first.reply) block c.in_ok-app.ensures.answer in
    let told = app_is (g.L.Link.talk old.link) handle first.reply block (c.in_ok-app.ensures.asked.told app.0) app.1 in
    let found : option_copied c.as_deref.result ≡ block = search rules in
    let again : option_copied c.as_deref-2.result ≡ block = search rules in
    let kept : option_copied c.as_deref-3.result ≡ block_of c.in_ok-written.written = search rules in
    let merge : c.in_ok-merge.merge ≡ blocks_merge block rows_app =
    c.in_ok-merge.ensures ∙ ap (λ (b : Option (List ℕ)). blocks_merge b rows_app) found in
    let written : option_copied c.as_deref-3.result ≡ written_block block (blocks_merge block rows_app) =
    kept ∙ c.in_ok-written.ensures ∙ ap (λ (b : Option (List ℕ)). written_block b c.in_ok-merge.merge) again
    ∙ ap (λ (m : Option MergeValue). written_block block m) merge in
    let asks = rw (c.in_ok-app.ensures.same_handle, written) at c.in_ok-write_where.ensures.asks in
    filed_asks rows_app block handle (g.L.Link.talk old.link) refl told
    (asks_behind g.met.L.Link.since_more (reading_app handle) _ app.0 c.in_ok-app.ensures.asked (asks_other (Ok c.in_ok-merge.merge) asks))

pub returns-in_err-app-clause-cause : goal.returns-in_err-app-clause-cause
returns-in_err-app-clause-cause g c =
    let p = err_from_is_err_and c.from_residual.result c.from_residual.ensures.1 in
    rw (p.1, p.2) (later_copy {A = Vec ℕ} (λ copy. copy.items) _ c.in_err-app.ensures.asked c.in_err-app.ensures.answer)
