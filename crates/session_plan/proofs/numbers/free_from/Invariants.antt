use Rattle.std.proofs.Common.{◌≡◌, ◌+◌, ◌-◌, ◌∷◌}
use Rattle.desktop_session.specs.Seats.{numbers_of}
use Rattle.session_plan.specs.Numbers.{free_from}
use Rattle.session_plan.proofs.numbers.free_from.Given as goal

abbrev pub invariant-loop-tried : goal.invariant-loop-tried
invariant-loop-tried l = record {
  number : l.number ≡ l.first + l.tried;
  same : free_from (17 - l.tried) l.number (l.user ∷ numbers_of l.marks) ≡ free_from 17 l.first (l.user ∷ numbers_of l.marks);
}
