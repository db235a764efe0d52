use Rattle.std.proofs.Common.{◌≡◌, [], map, replicate}
use Rattle.conduit_rules.proofs.buckets.empty_buckets.Given as goal

abbrev pub invariant-loop : goal.invariant-loop
invariant-loop l = map (λ b. b.items) l.buckets.items ≡ replicate l.counter []
