use Rattle.std.proofs.Common.{◌≡◌, take}
use Rattle.session_plan.specs.Archives.{Notes, entries_of, with_entries}
use Rattle.session_plan.proofs.archive.put_old.Given as goal

abbrev pub invariant-loop-entry : goal.invariant-loop-entry
invariant-loop-entry l = Notes l.seen l.archive.items × (l.archive.items ≡ with_entries (entries_of (take l.entry-index l.old)) l.fn.archive.items)
