-- No block is not written.
use Rattle.std.proofs.Common.{refl}
use Rattle.desktop_session.specs.declared.fault.SessionFault.TheVariants as session
use Rattle.category_mirror.proofs.FileLaws.{asks_lost, asks_none}
use Rattle.session_parts.proofs.CauseLaws.{later_answer}
use Rattle.session_parts.proofs.LinkWords.{no_more}
use Rattle.category_mirror.proofs.filing.write_where.Goals as goal

pub returns-in_default-clause-asks : goal.returns-in_default-clause-asks
returns-in_default-clause-asks g c = rw c.in_default.is (asks_none g.met.L.Link.since_itself c.args.db.now.linked.now tt)

pub returns-then-bytes-gt-LIMIT-clause-asks : goal.returns-then-bytes-gt-LIMIT-clause-asks
returns-then-bytes-gt-LIMIT-clause-asks g c = asks_lost g.met.L.Link.since_itself c.args.db.now.linked.now session.NoMemory

pub returns-clause-cause : goal.returns-clause-cause
returns-clause-cause g c = later_answer no_more c.write_app.result refl c.write_app.ensures.asked c.write_app.ensures.answer
