-- A database is read whole.
use Rattle.std.proofs.Common.{◌≡◌, ◌∷◌, ℕ, refl}
use Rattle.std.specs.Global.{Vec}
use Rattle.std.proofs.lemmas.Result.{err_from_is_err_and}
use Rattle.pdb_values.specs.Blocks.{block_of}
use Rattle.pdb_values.specs.Databases.{DatabaseValue}
use Rattle.pdb_values.specs.Heads.{holds_resources}
use Rattle.palm_device.specs.Devices.{Device}
use Rattle.dlp_replies.specs.ReplyReading.{reply_at}
use Rattle.desktop_session.specs.Requests.{counting, reading_app, reading_sort}
use Rattle.desktop_session.specs.Acts.{acted}
use Rattle.mirrors.specs.Reads.{entries_of}
use Rattle.mirrors.proofs.AskLaws.{asked_part}
use Rattle.mirrors.proofs.ReadLaws.{count_from, count_told}
use Rattle.install_backup.specs.BackupActs.{entry_reads}
use Rattle.install_backup.specs.Copies.{blocked, with_entries}
use Rattle.install_backup.proofs.CopyLaws.{app_same, asks_behind, block_said, copied_by, count_same, counted_asks, if_ok, sort_same, told_before}
use Rattle.session_parts.proofs.CauseLaws.{later_copy, later_refused}
use Rattle.desktop_session.specs.Answers.{count_of}
use Rattle.install_backup.proofs.copying.read_whole.Goals as goal

pub returns-in_err-count-clause-asks : goal.returns-in_err-count-clause-asks
returns-in_err-count-clause-asks g c =
    let p = err_from_is_err_and c.from_residual.result c.from_residual.ensures.1 in
    let handle = c.args.db.now.handle in
    rw (p.1, p.2) (asked_part g.L.Link.talk g.L.Link.since g.L.Link.fault g.L.Link.downs (counting handle)
    (reading_app handle ∷ reading_sort handle ∷ entry_reads (holds_resources c.args.head.now.attributes) handle
    (entries_of (g.L.Link.talk c.args.db.now.linked.now.link) handle)) _ _ _ c.in_err-count.ensures.asked)

pub returns-in_err-app-clause-asks : goal.returns-in_err-app-clause-asks
returns-in_err-app-clause-asks g c =
    let p = err_from_is_err_and c.from_residual-in_err-app.result c.from_residual-in_err-app.ensures.1 in
    let handle = c.args.db.now.handle in
    let of_resources = holds_resources c.args.head.now.attributes in
    let old = c.args.db.now.linked.now in
    let first = c.count.new.self.linked.now in
    let from = count_from (g.L.Link.fault first.link) (reply_at 0x2B first.reply) c.in_ok-count.ensures.answer in
    let counted = count_told (g.L.Link.talk old.link) handle first.reply (c.in_ok-count.ensures.asked.told from.0) from.1 in
    let count = c.in_ok-count.count in
    let app_asked = rw c.in_ok-count.ensures.same_handle at c.in_err-app.ensures.asked in
    rw (p.1, p.2) (counted_asks of_resources handle count (g.L.Link.talk old.link) refl counted
    (asks_behind g.met.L.Link.since_more (counting handle) (reading_app handle ∷ reading_sort handle ∷ entry_reads of_resources handle count) from.0
    c.in_ok-count.ensures.asked
    (asked_part g.L.Link.talk g.L.Link.since g.L.Link.fault g.L.Link.downs (reading_app handle) (reading_sort handle ∷ entry_reads of_resources handle count) _ _ _ app_asked)))

pub returns-in_err-sort-clause-asks : goal.returns-in_err-sort-clause-asks
returns-in_err-sort-clause-asks g c =
    let p = err_from_is_err_and c.from_residual-in_err-sort.result c.from_residual-in_err-sort.ensures.1 in
    let handle = c.args.db.now.handle in
    let of_resources = holds_resources c.args.head.now.attributes in
    let old = c.args.db.now.linked.now in
    let first = c.count.new.self.linked.now in
    let from = count_from (g.L.Link.fault first.link) (reply_at 0x2B first.reply) c.in_ok-count.ensures.answer in
    let counted = count_told (g.L.Link.talk old.link) handle first.reply (c.in_ok-count.ensures.asked.told from.0) from.1 in
    let count = c.in_ok-count.count in
    let app_asked = rw c.in_ok-count.ensures.same_handle at c.in_ok-app.ensures.asked in
    let app = block_said 0x1B (g.L.Link.fault c.read_app.new.self.linked.now.link) (reply_at 0x1B c.read_app.new.self.linked.now.reply) _ c.in_ok-app.ensures.answer in
    let sort_asked = rw (c.in_ok-app.ensures.same_handle, c.in_ok-count.ensures.same_handle) at c.in_err-sort.ensures.asked in
    rw (p.1, p.2) (counted_asks of_resources handle count (g.L.Link.talk old.link) refl counted
    (asks_behind g.met.L.Link.since_more (counting handle) (reading_app handle ∷ reading_sort handle ∷ entry_reads of_resources handle count) from.0
    c.in_ok-count.ensures.asked
    (asks_behind g.met.L.Link.since_more (reading_app handle) (reading_sort handle ∷ entry_reads of_resources handle count) app.0 app_asked
    (asked_part g.L.Link.talk g.L.Link.since g.L.Link.fault g.L.Link.downs (reading_sort handle) (entry_reads of_resources handle count) _ _ _ sort_asked))))

pub returns-in_err-made-clause-asks : goal.returns-in_err-made-clause-asks
returns-in_err-made-clause-asks g c =
    let p = err_from_is_err_and c.from_residual-in_err-made.result c.from_residual-in_err-made.ensures.1 in
    let handle = c.args.db.now.handle in
    let of_resources = holds_resources c.args.head.now.attributes in
    let old = c.args.db.now.linked.now in
    let first = c.count.new.self.linked.now in
    let from = count_from (g.L.Link.fault first.link) (reply_at 0x2B first.reply) c.in_ok-count.ensures.answer in
    let counted = count_told (g.L.Link.talk old.link) handle first.reply (c.in_ok-count.ensures.asked.told from.0) from.1 in
    let count = c.in_ok-count.count in
    let app_asked = rw c.in_ok-count.ensures.same_handle at c.in_ok-app.ensures.asked in
    let app = block_said 0x1B (g.L.Link.fault c.read_app.new.self.linked.now.link) (reply_at 0x1B c.read_app.new.self.linked.now.reply) _ c.in_ok-app.ensures.answer in
    let sort_asked = rw (c.in_ok-app.ensures.same_handle, c.in_ok-count.ensures.same_handle) at c.in_ok-sort.ensures.asked in
    let sort = block_said 0x1D (g.L.Link.fault c.read_sort.new.self.linked.now.link) (reply_at 0x1D c.read_sort.new.self.linked.now.reply) _ c.in_ok-sort.ensures.answer in
    rw (p.1, p.2) (counted_asks of_resources handle count (g.L.Link.talk old.link) refl counted
    (asks_behind g.met.L.Link.since_more (counting handle) (reading_app handle ∷ reading_sort handle ∷ entry_reads of_resources handle count) from.0
    c.in_ok-count.ensures.asked
    (asks_behind g.met.L.Link.since_more (reading_app handle) (reading_sort handle ∷ entry_reads of_resources handle count) app.0 app_asked
    (asked_part g.L.Link.talk g.L.Link.since g.L.Link.fault g.L.Link.downs (reading_sort handle) (entry_reads of_resources handle count) _ _ _ sort_asked))))

pub returns-clause-asks : goal.returns-clause-asks
returns-clause-asks g c =
    let handle = c.args.db.now.handle in
    let of_resources = holds_resources c.args.head.now.attributes in
    let old = c.args.db.now.linked.now in
    let first = c.count.new.self.linked.now in
    let from = count_from (g.L.Link.fault first.link) (reply_at 0x2B first.reply) c.in_ok-count.ensures.answer in
    let counted = count_told (g.L.Link.talk old.link) handle first.reply (c.in_ok-count.ensures.asked.told from.0) from.1 in
    let count = c.in_ok-count.count in
    let app_asked = rw c.in_ok-count.ensures.same_handle at c.in_ok-app.ensures.asked in
    let app = block_said 0x1B (g.L.Link.fault c.read_app.new.self.linked.now.link) (reply_at 0x1B c.read_app.new.self.linked.now.reply) _ c.in_ok-app.ensures.answer in
    let sort_asked = rw (c.in_ok-app.ensures.same_handle, c.in_ok-count.ensures.same_handle) at c.in_ok-sort.ensures.asked in
    let sort = block_said 0x1D (g.L.Link.fault c.read_sort.new.self.linked.now.link) (reply_at 0x1D c.read_sort.new.self.linked.now.reply) _ c.in_ok-sort.ensures.answer in
    let asks = rw (c.in_ok-sort.ensures.same_handle, c.in_ok-app.ensures.same_handle, c.in_ok-count.ensures.same_handle, c.in_ok-made.ensures.made) at
    c.read_entries.ensures.asks in
    counted_asks of_resources handle count (g.L.Link.talk old.link) refl counted
    (asks_behind g.met.L.Link.since_more (counting handle) (reading_app handle ∷ reading_sort handle ∷ entry_reads of_resources handle count) from.0
    c.in_ok-count.ensures.asked
    (asks_behind g.met.L.Link.since_more (reading_app handle) (reading_sort handle ∷ entry_reads of_resources handle count) app.0 app_asked
    (asks_behind g.met.L.Link.since_more (reading_sort handle) (entry_reads of_resources handle count) sort.0 sort_asked asks)))

pub returns-clause-told : goal.returns-clause-told
returns-clause-told g c =
    let handle = c.args.db.now.handle in
    let of_resources = holds_resources c.args.head.now.attributes in
    let old = c.args.db.now.linked.now in
    let first = c.count.new.self.linked.now in
    let from = count_from (g.L.Link.fault first.link) (reply_at 0x2B first.reply) c.in_ok-count.ensures.answer in
    let counted = count_told (g.L.Link.talk old.link) handle first.reply (c.in_ok-count.ensures.asked.told from.0) from.1 in
    let count = c.in_ok-count.count in
    let app_asked = rw c.in_ok-count.ensures.same_handle at c.in_ok-app.ensures.asked in
    let app = block_said 0x1B (g.L.Link.fault c.read_app.new.self.linked.now.link) (reply_at 0x1B c.read_app.new.self.linked.now.reply) _ c.in_ok-app.ensures.answer in
    let sort_asked = rw (c.in_ok-app.ensures.same_handle, c.in_ok-count.ensures.same_handle) at c.in_ok-sort.ensures.asked in
    let sort = block_said 0x1D (g.L.Link.fault c.read_sort.new.self.linked.now.link) (reply_at 0x1D c.read_sort.new.self.linked.now.reply) _ c.in_ok-sort.ensures.answer in
    let second = c.read_app.new.self.linked.now in
    let third = c.read_sort.new.self.linked.now in
    let told = rw (c.in_ok-sort.ensures.same_handle, c.in_ok-app.ensures.same_handle, c.in_ok-count.ensures.same_handle, c.in_ok-made.ensures.made) at
    c.read_entries.ensures.told in
    let counts = (c.in_ok-count.ensures.asked.does from.0).said in
    let apps = (app_asked.does app.0).said in
    let sorts = (sort_asked.does sort.0).said in
    let head = c.args.head.now in
    let blocks = blocked head (block_of c.in_ok-app.app) (block_of c.in_ok-sort.sort) in
    let P : Device → Type 0 = λ d. second.reply ≡ (acted (reading_app handle) d).0 in
    let Q : Device → Type 0 = λ d. third.reply ≡ (acted (reading_sort handle) d).0 in
    let R : DatabaseValue → Device → Type 0 = λ whole d. whole ≡ with_entries blocks d handle count in
    if_ok c.read_entries.result told (λ whole is.
    copied_by (g.L.Link.talk old.link) head handle count (block_of c.in_ok-app.app) (block_of c.in_ok-sort.sort) second.reply third.reply whole counted
    (told_before P (counting handle) (count_same handle) (g.L.Link.talk old.link) counts (app_asked.told app.0)) app.1
    (told_before Q (counting handle) (count_same handle) (g.L.Link.talk old.link) counts
    (told_before Q (reading_app handle) (app_same handle) (g.L.Link.talk first.link) apps (sort_asked.told sort.0))) sort.1
    (told_before (R whole) (counting handle) (count_same handle) (g.L.Link.talk old.link) counts
    (told_before (R whole) (reading_app handle) (app_same handle) (g.L.Link.talk first.link) apps
    (told_before (R whole) (reading_sort handle) (sort_same handle) (g.L.Link.talk second.link) sorts is))))

pub returns-in_err-count-clause-cause : goal.returns-in_err-count-clause-cause
returns-in_err-count-clause-cause g c =
    let p = err_from_is_err_and c.from_residual.result c.from_residual.ensures.1 in
    rw (p.1, p.2) (later_refused count_of _ refl c.in_err-count.ensures.asked c.in_err-count.ensures.answer)

pub returns-in_err-app-clause-cause : goal.returns-in_err-app-clause-cause
returns-in_err-app-clause-cause g c =
    let p = err_from_is_err_and c.from_residual-in_err-app.result c.from_residual-in_err-app.ensures.1 in
    rw (p.1, p.2) (later_copy {A = Vec ℕ} (λ copy. copy.items) _ c.in_err-app.ensures.asked c.in_err-app.ensures.answer)

pub returns-in_err-sort-clause-cause : goal.returns-in_err-sort-clause-cause
returns-in_err-sort-clause-cause g c =
    let p = err_from_is_err_and c.from_residual-in_err-sort.result c.from_residual-in_err-sort.ensures.1 in
    rw (p.1, p.2) (later_copy {A = Vec ℕ} (λ copy. copy.items) _ c.in_err-sort.ensures.asked c.in_err-sort.ensures.answer)
