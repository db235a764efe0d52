-- Transactions come round.
use Rattle.std.proofs.Common.{◌≡◌, ℕ, zero, suc, ◌+◌, ◌%◌, arith, refl, add-one}
use Rattle.std.proofs.lemmas.Bool.Decides.{nat_tests}
use Rattle.padp_link.specs.Neighbours.{session_id}
use Rattle.port_link.specs.Greetings.{id_behind}

next : (number : ℕ) → (number + 1) % 253 + 1 ≡ id_behind (number % 253 + 1)
next number = grind (arith, nat_tests)

pub round : (number : ℕ) → session_id (number + 1) ≡ id_behind (session_id number)
round zero = refl
round (suc number) = rw (add-one) (rw (← add-one) (next number))
