use Rattle.std.proofs.Common.{rules}
use Rattle.handheld_store.proofs.AddedLaws.{AreIndexes-remove, find_none, find_some}
use Rattle.handheld_store.proofs.index.take_index.Goals as goal

pub returns-in-Some-clause-taken : goal.returns-in-Some-clause-taken
returns-in-Some-clause-taken c = search (rules, find_some)

pub returns-in-Some-clause-others : goal.returns-in-Some-clause-others
returns-in-Some-clause-others c =
    λ databases are. rw c.remove.ensures.items (AreIndexes-remove databases c.args.indexes.now.items c.in-Some.place are)

pub returns-in-None-clause-taken : goal.returns-in-None-clause-taken
returns-in-None-clause-taken c = search (rules, find_none)
