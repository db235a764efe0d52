use Rattle.std.proofs.Common.{◌≡◌, take}
use Rattle.session_plan.specs.Archives.{Notes, with_entries}
use Rattle.session_plan.proofs.archive.put_new.Given as goal

abbrev pub invariant-loop-entry : goal.invariant-loop-entry
invariant-loop-entry l = Notes l.seen l.archive.items × (l.archive.items ≡ with_entries (take l.entry-index l.new) l.fn.archive.items)
