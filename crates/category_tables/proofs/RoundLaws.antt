-- One number more.
use Rattle.std.proofs.Common.{arith, ◌≡◌, ℕ, zero, suc, ◌+◌, ◌-◌, ◌≤◌, ap}
use Rattle.category_tables.specs.Merges.{MergingValue, rounds}

pub rounds_more : (step : ℕ → MergingValue → MergingValue) (number : ℕ) (now begun : MergingValue) → 1 ≤ number
    → now ≡ rounds step (number - 1) begun → step number now ≡ rounds step (number + 1 - 1) begun
unfolding rounds
rounds_more step zero now begun some is = absurd (omega arith)
rounds_more step (suc n) now begun some is =
    let less : suc n - 1 ≡ n = omega arith in
    let same : suc n + 1 - 1 ≡ suc n = omega arith in
    rw same (ap (step (suc n)) (rw less at is))
