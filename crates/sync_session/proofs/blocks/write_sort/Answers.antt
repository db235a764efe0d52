-- No block, or one of no bytes, is not written.
use Rattle.std.proofs.Common.{◌∙◌, sym, refl}
use Rattle.std.proofs.lemmas.Bool.{eqb-true}
use Rattle.desktop_session.specs.Asking.{writes_sort}
use Rattle.desktop_session.specs.Requests.{writing_sort}
use Rattle.mirrors.proofs.AskLaws.{asked_answer}
use Rattle.mirrors.proofs.PartFollows.{follows_none}
use Rattle.session_parts.proofs.CauseLaws.{later_answer}
use Rattle.session_parts.proofs.LinkWords.{no_more}
use Rattle.sync_session.proofs.BlockLaws.{asks_none, block_none, block_some, no_block, some_block}
use Rattle.sync_session.proofs.blocks.write_sort.Goals as goal

pub returns-in_default-clause-asks : goal.returns-in_default-clause-asks
returns-in_default-clause-asks g c = rw c.in_default.is (asks_none g.met.L.Link.since_itself c.args.db.now.linked.now tt)

pub returns-then-is_empty-clause-asks : goal.returns-then-is_empty-clause-asks
returns-then-is_empty-clause-asks g c =
    rw c.in-Some.is (rw (block_none writing_sort c.args.db.now.handle c.in-Some.bytes.now
    (eqb-true _ 0 (sym c.is_empty.ensures ∙ c.if-is_empty.true)))
    (asks_none g.met.L.Link.since_itself c.args.db.now.linked.now tt))

pub returns-clause-asks : goal.returns-clause-asks
returns-clause-asks g c =
    rw c.in-Some.is (rw (block_some writing_sort c.args.db.now.handle c.in-Some.bytes.now (sym c.is_empty.ensures ∙ c.if-is_empty.false))
    (asked_answer g.L.Link.talk g.L.Link.since g.L.Link.fault g.L.Link.downs (writing_sort c.args.db.now.handle c.in-Some.bytes.now)
    c.args.db.now.linked.now c.write_sort.new.self.linked.now _ c.write_sort.result c.write_sort.ensures.answer c.write_sort.ensures.asked))

pub returns-clause-cause : goal.returns-clause-cause
returns-clause-cause g c = later_answer no_more c.write_sort.result refl c.write_sort.ensures.asked c.write_sort.ensures.answer

pub returns-in_default-clause-follows : goal.returns-in_default-clause-follows
returns-in_default-clause-follows g c = rw c.in_default.is (follows_none g.met.L.Link.heard_none _ _ refl)

pub returns-then-is_empty-clause-follows : goal.returns-then-is_empty-clause-follows
returns-then-is_empty-clause-follows g c =
    rw c.in-Some.is (follows_none g.met.L.Link.heard_none _ _
    (no_block writes_sort c.args.db.now.handle c.in-Some.bytes.now (eqb-true _ 0 (sym c.is_empty.ensures ∙ c.if-is_empty.true))))

pub returns-clause-follows : goal.returns-clause-follows
returns-clause-follows g c =
    rw (c.in-Some.is, some_block writes_sort c.args.db.now.handle c.in-Some.bytes.now (sym c.is_empty.ensures ∙ c.if-is_empty.false))
    c.write_sort.ensures.follows
