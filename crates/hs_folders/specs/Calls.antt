-- Calls that are to fail: an object in memory counts its calls, and fails at those of certain
-- numbers.
use Rattle.std.specs.Prelude.{◌≡◌, ℕ, ◌+◌, ◌-◌, ◌^◌, ◌↔◌, min, List, Contains}

-- One call more was made, up to what 64 bits hold. It failed exactly where its number is one of
-- those that are to fail, and these stay.
pub record CountsCall (made_before made_now : ℕ) (failing_before failing_now : List ℕ)
    (Failed : Type 0) : Type 0 where
  pub one_more : made_now ≡ min (made_before + 1) (2 ^ 64 - 1)
  pub same_failing : failing_now ≡ failing_before
  pub exactly : Failed ↔ Contains failing_before (made_before + 1)
