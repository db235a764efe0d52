-- A block that is written over another one.
use Rattle.std.proofs.Common.{◌≡◌, ◌==◌, ◌∷◌, [], List, length, refl, true, false, ℕ, arith}
use Rattle.std.specs.Prelude.{Option, Some}
use Rattle.palm_device.specs.Blocks.{block_or_none}
use Rattle.session_plan.specs.Blocks.{block_over, block_with_bytes}

-- one of no bytes is not, and any other is
pub over_none : (bytes : List ℕ) (own : Option (List ℕ)) → (length bytes == 0) ≡ true → block_over (block_with_bytes (Some bytes)) own ≡ own
over_none [] own none = refl
over_none (byte ∷ bytes) own none = absurd (grind arith)

pub over_some : (bytes : List ℕ) (own : Option (List ℕ)) → (length bytes == 0) ≡ false
    → block_over (block_with_bytes (Some bytes)) own ≡ block_or_none bytes
over_some [] own some = absurd cc
over_some (byte ∷ bytes) own some = refl
