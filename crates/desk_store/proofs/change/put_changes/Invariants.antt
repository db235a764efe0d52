use Rattle.std.proofs.Common.{◌≡◌, length}
use Rattle.desk_store.specs.Changes.{with_changes}
use Rattle.desk_store.proofs.change.put_changes.Given as goal

abbrev pub invariant-loop-database : goal.invariant-loop-database
invariant-loop-database l = with_changes l.databases.items l.shelves ≡ with_changes l.initial.databases.items l.initial.shelves

abbrev pub decreases-loop-database : goal.decreases-loop-database
decreases-loop-database l = length l.databases.items
