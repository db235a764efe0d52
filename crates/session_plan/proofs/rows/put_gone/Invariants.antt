use Rattle.std.proofs.Common.{◌≡◌, ◌++◌, map, take}
use Rattle.record_merge.specs.Merging.{gone_record}
use Rattle.session_plan.proofs.rows.put_gone.Given as goal

abbrev pub invariant-loop-entry : goal.invariant-loop-entry
invariant-loop-entry l = l.base.items ≡ l.fn.base.items ++ map gone_record (take l.entry-index l.gone)
