use Rattle.std.proofs.Common.{◌≡◌, map}
use Rattle.conduit_rules.specs.declared.view.Seen.{Seen}
use Rattle.record_merge.specs.Merging.{settled_record}
use Rattle.session_plan.proofs.rows.settled_all.Given as goal

abbrev pub invariant-loop-seen : goal.invariant-loop-seen
invariant-loop-seen l = l.rows.items ≡ map (λ (seen : Seen). settled_record (seen.id, seen.content)) l.yielded
