use Rattle.std.proofs.Common.{◌≡◌, ◌<◌, ◌∷◌, drop}
use Rattle.session_plan.specs.Numbers.{mixed}
use Rattle.session_plan.proofs.numbers.first_number.Given as goal

abbrev pub invariant-loop-byte : goal.invariant-loop-byte
invariant-loop-byte l = record {
  seed : mixed l.seed (drop l.byte-index l.name) ≡ mixed 0 (l.fn.date ∷ l.old ∷ l.name);
  below : l.seed < 2147483648;
}
