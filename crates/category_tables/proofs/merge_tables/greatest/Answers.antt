use Rattle.std.proofs.Common.{add-one, [], drop-cons}
use Rattle.std.proofs.lemmas.List.{drop_all}
use Rattle.category_tables.specs.Merges.{greatest}
use Rattle.category_tables.proofs.merge_tables.greatest.Goals as goal

pub loop-entry-preserved : goal.loop-entry-preserved
unfolding greatest
loop-entry-preserved c =
    let next = drop-cons c.args.entries.now c.loop-entry.entry-index (record { label = []; id = 0 }) c.loop-entry-test.true in
    let here = rw next at c.loop-entry.invariant in
    rw (add-one, c.max-last.ensures) here

pub returns : goal.returns
unfolding greatest
returns c = let none = drop_all c.loop-entry.entry-index c.args.entries.now c.loop-entry-test.false in rw none at c.loop-entry.invariant
