-- Counts of faults: what an object that can fail says of its count at each call.
use Rattle.std.specs.Prelude.{◌≡◌, ℕ, ◌+◌, ◌-◌, ◌^◌, ◌≤◌, min}

-- A count of 64 bits went up, or stands at its greatest value.
abbrev pub Rose : ℕ → ℕ → Type 0
Rose before now = min (before + 1) (2 ^ 64 - 1) ≤ now

-- The count did not fall in a call. It rose where a fault was answered, and is the same where none
-- was.
pub record HasCause (before now : ℕ) (Faulted : Type 0) : Type 0 where
  pub later : before ≤ now
  pub rose : Faulted → Rose before now
  pub still : ¬ Faulted → now ≡ before
