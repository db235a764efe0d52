-- A database is installed, or passed over.
use Rattle.std.proofs.Common.{◌≡◌, ◌∙◌, ap, sym, true, false}
use Rattle.std.proofs.lemmas.Result.{err_from_is_err_and}
use Rattle.pdb_values.specs.Heads.{is_read_only}
use Rattle.pdb_values.specs.declared.head.DbHead.{DbHead}
use Rattle.install_backup.proofs.ManyLaws.{not_installed, passed_over, was_installed}
use Rattle.install_backup.proofs.many.install_writable.Goals as goal

pub returns-then-is_read_only-clause-spans : goal.returns-then-is_read_only-clause-spans
returns-then-is_read_only-clause-spans g c =
    let only : is_read_only c.args.database.now.head.attributes ≡ true =
    ap (λ (head : DbHead). is_read_only head.attributes) (sym c.head-2.ensures.head) ∙ sym c.is_read_only.ensures ∙ c.if-is_read_only.true in
    passed_over c.args.database.now g.met.L.Link.since_itself c.args.linked.now only
    (c.copy-name.ensures ∙ ap (λ (head : DbHead). head.name) c.head.ensures.head)

pub returns-in_err-count-clause-spans : goal.returns-in_err-count-clause-spans
returns-in_err-count-clause-spans g c =
    let p = err_from_is_err_and c.from_residual.result c.from_residual.ensures.1 in
    let writable : is_read_only c.args.database.now.head.attributes ≡ false =
    ap (λ (head : DbHead). is_read_only head.attributes) (sym c.head-2.ensures.head) ∙ sym c.is_read_only.ensures ∙ c.if-is_read_only.false in
    rw (p.1, p.2) (not_installed c.args.database.now writable c.in_err-count.ensures.spans)

pub returns-clause-spans : goal.returns-clause-spans
returns-clause-spans g c =
    let writable : is_read_only c.args.database.now.head.attributes ≡ false =
    ap (λ (head : DbHead). is_read_only head.attributes) (sym c.head-2.ensures.head) ∙ sym c.is_read_only.ensures ∙ c.if-is_read_only.false in
    was_installed c.args.database.now writable (c.copy-name.ensures ∙ ap (λ (head : DbHead). head.name) c.head.ensures.head)
    c.in_ok-count.ensures.room c.in_ok-count.ensures.spans

pub returns-in_err-count-clause-within : goal.returns-in_err-count-clause-within
returns-in_err-count-clause-within g c =
    let p = err_from_is_err_and c.from_residual.result c.from_residual.ensures.1 in
    rw p.1 c.in_err-count.ensures.within
