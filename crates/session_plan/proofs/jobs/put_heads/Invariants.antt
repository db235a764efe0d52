use Rattle.std.proofs.Common.{◌≡◌, map, take}
use Rattle.session_plan.proofs.PlanWords.{DbHead, with_names}
use Rattle.session_plan.proofs.jobs.put_heads.Given as goal

abbrev pub invariant-loop-head : goal.invariant-loop-head
invariant-loop-head l = l.names.items ≡ with_names (map (λ (head : DbHead). head.name) (take l.head-index l.heads)) l.fn.names.items
