-- A database is opened, read whole, and closed.
use Rattle.std.proofs.Common.{refl}
use Rattle.std.proofs.Common.{[], ◌∷◌, rules}
use Rattle.std.proofs.lemmas.Result.{err_from_is_err_and}
use Rattle.pdb_values.specs.Heads.{holds_resources}
use Rattle.desktop_session.specs.Requests.{opening_to_read}
use Rattle.mirrors.specs.Reads.{entries_of}
use Rattle.session_parts.proofs.LinkWords.{saying}
use Rattle.session_parts.proofs.SpanLaws.{span_done, span_stopped, span_unclosed, span_unopened}
use Rattle.install_backup.specs.BackupActs.{backup_under}
use Rattle.install_backup.specs.Backups.{backups_under}
use Rattle.install_backup.proofs.OpenReadLaws.{opened_to_read}
use Rattle.install_backup.proofs.backing_up.backup_one.Goals as goal

pub returns-in_err-opened : goal.returns-in_err-opened
unfolding backups_under
returns-in_err-opened g c =
    let p = err_from_is_err_and c.from_residual.result c.from_residual.ensures.1 in
    let told = saying (opening_to_read c.args.head.now.name ∷ []) (g.L.Link.talk c.args.linked.now.link) in
    record { spans = rw (p.1, p.2) (span_unopened _ 0x17 (λ handle given. backup_under (holds_resources c.args.head.now.attributes) (entries_of told handle) handle) _ refl refl c.in_err-opened.was c.open_read.follows.holds-at-none) }

pub returns-in-Err : goal.returns-in-Err
unfolding backups_under
returns-in-Err g c =
    let opened = opened_to_read c.args.head.now.name c.in_ok-opened.ensures.asked c.in_ok-opened.ensures.handle in
    let told = saying (opening_to_read c.args.head.now.name ∷ []) (g.L.Link.talk c.args.linked.now.link) in
    record {
      spans = span_stopped g.met.L.Link.since_more (λ handle given. backup_under (holds_resources c.args.head.now.attributes) (entries_of told handle) handle) [] opened
          (rw opened.told at c.in-Err.ensures.asks) c.in-Err.ensures.cause (search rules);
    }

pub returns-in_err-close : goal.returns-in_err-close
unfolding backups_under
returns-in_err-close g c =
    let p = err_from_is_err_and c.from_residual-in_err-close.result c.from_residual-in_err-close.ensures.1 in
    let opened = opened_to_read c.args.head.now.name c.in_ok-opened.ensures.asked c.in_ok-opened.ensures.handle in
    let told = saying (opening_to_read c.args.head.now.name ∷ []) (g.L.Link.talk c.args.linked.now.link) in
    record {
      spans = rw (p.1, p.2) (span_unclosed g.met.L.Link.since_more (λ handle given. backup_under (holds_resources c.args.head.now.attributes) (entries_of told handle) handle) [] opened
          (rw opened.told at c.in-Ok.ensures.asks) c.in-Ok.ensures.same_handle c.in_err-close.ensures.asked c.in_err-close.ensures.answer (search rules));
    }

pub returns : goal.returns
unfolding backups_under
returns g c =
    let opened = opened_to_read c.args.head.now.name c.in_ok-opened.ensures.asked c.in_ok-opened.ensures.handle in
    let told = saying (opening_to_read c.args.head.now.name ∷ []) (g.L.Link.talk c.args.linked.now.link) in
    record {
      spans = span_done g.met.L.Link.since_more (λ handle given. backup_under (holds_resources c.args.head.now.attributes) (entries_of told handle) handle) [] opened (rw opened.told at c.in-Ok.ensures.asks)
          c.in-Ok.ensures.same_handle c.in_ok-close.ensures.asked c.in_ok-close.ensures.answer (rw opened.told at c.in-Ok.ensures.told) (search rules);
    }
