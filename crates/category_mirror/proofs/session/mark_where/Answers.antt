-- A handheld is marked, or it need not be.
use Rattle.std.proofs.Common.{◌∙◌, ap, sym}
use Rattle.pdb_values.specs.declared.user.UserInfo.{UserInfo}
use Rattle.category_mirror.proofs.FileLaws.{asks_none}
use Rattle.category_mirror.proofs.MarkLaws.{marks-empty, marks-known, marks-some}
use Rattle.category_mirror.proofs.session.mark_where.Goals as goal

pub returns-then-is_empty-clause-asks : goal.returns-then-is_empty-clause-asks
returns-then-is_empty-clause-asks g c =
    rw (marks-empty c.args.changes.now c.args.linked.now.user (sym c.is_empty.ensures ∙ c.if-is_empty.true))
    (asks_none g.met.L.Link.since_itself c.args.linked.now tt)

pub returns-then-known-eq0-clause-asks : goal.returns-then-known-eq0-clause-asks
returns-then-known-eq0-clause-asks g c =
    rw (marks-known c.args.changes.now c.args.linked.now.user (sym (ap (λ (u : UserInfo). u.pc) c.user.ensures) ∙ c.if-known-eq0.true))
    (asks_none g.met.L.Link.since_itself c.args.linked.now tt)

pub returns-clause-asks : goal.returns-clause-asks
returns-clause-asks g c =
    rw (marks-some c.args.changes.now c.args.linked.now.user (sym c.is_empty.ensures ∙ c.if-is_empty.false)
    (λ none. c.if-known-eq0.false (ap (λ (u : UserInfo). u.pc) c.user.ensures ∙ none))) c.mark.ensures.asks
