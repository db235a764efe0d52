use Rattle.std.proofs.Common.{◌≡◌, map, take}
use Rattle.conduit_rules.specs.Runs.{placed}
use Rattle.conduit_rules.proofs.run.with_places.Given as goal

abbrev pub invariant-loop-place : goal.invariant-loop-place
invariant-loop-place g l = map (λ e. (e.0, e.1.now)) l.entries.items ≡ placed (take l.place l.list)
