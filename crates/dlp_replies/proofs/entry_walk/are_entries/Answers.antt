use Rattle.std.proofs.Common.{◌∙◌, ◌-◌, sym, arith}
use Rattle.dlp_replies.specs.Views.{entry_row}
use Rattle.dlp_replies.proofs.EntryLaws.{walk_on, walk_ends, last_rows}
use Rattle.dlp_replies.proofs.entry_walk.are_entries.Goals as goal

pub returns-in-None : goal.returns-in-None
returns-in-None c = sym (c.loop.invariant ∙ walk_ends c.args.count c.loop.counter c.loop.rest.now c.loop-test.true (sym c.in-None.ensures.entry))

pub loop-preserved : goal.loop-preserved
loop-preserved c = c.loop.invariant ∙ walk_on c.args.count c.loop.counter c.loop.rest.now (entry_row c.in-Some.field-0-0) c.in-Some.after.now c.loop-test.true
    (sym c.in-Some.ensures.entry)

pub returns : goal.returns
returns c = c.is_empty.ensures ∙ sym (c.loop.invariant ∙ last_rows (c.args.count - c.loop.counter) c.loop.rest.now (omega (arith, c.loop-test.false)))
