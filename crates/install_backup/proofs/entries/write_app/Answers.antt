-- No block, or one of no bytes, is not written.
use Rattle.std.proofs.Common.{◌∙◌, sym, refl}
use Rattle.std.proofs.lemmas.Bool.{eqb-true}
use Rattle.desktop_session.specs.Requests.{writing_app}
use Rattle.install_backup.proofs.AskWords.{asks_none, block_none}
use Rattle.session_parts.proofs.CauseLaws.{later_answer}
use Rattle.session_parts.proofs.LinkWords.{no_more}
use Rattle.install_backup.proofs.LimitLaws.{other_said}
use Rattle.install_backup.proofs.entries.write_app.Goals as goal

pub returns-in_default-clause-asks : goal.returns-in_default-clause-asks
returns-in_default-clause-asks g c = rw c.in_default.is (asks_none g.met.L.Link.since_itself c.args.db.now.linked.now tt)

pub returns-then-is_empty-clause-asks : goal.returns-then-is_empty-clause-asks
returns-then-is_empty-clause-asks g c =
    rw c.in-Some.is (rw (block_none writing_app c.args.db.now.handle c.in-Some.bytes.now
    (eqb-true _ 0 (sym c.is_empty.ensures ∙ c.if-is_empty.true)))
    (asks_none g.met.L.Link.since_itself c.args.db.now.linked.now tt))

pub returns-clause-cause : goal.returns-clause-cause
returns-clause-cause g c = later_answer no_more c.write_app.result refl c.write_app.ensures.asked c.write_app.ensures.answer

pub returns-clause-others : goal.returns-clause-others
returns-clause-others g c = other_said 0x1C _ no_more _ c.write_app.result refl c.write_app.ensures.answer
