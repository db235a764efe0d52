-- The app block and the sort block of a database (Palm File Format Specification, appInfo and
-- sortInfo).
use Rattle.std.specs.Prelude.{ℕ, List, length, Option, None, Some}
use Rattle.std.specs.Global.{Vec}
use Rattle.std.specs.Option.{option_map}

-- a block as its bytes
abbrev pub block_of : Option (Vec ℕ) → Option (List ℕ)
block_of block = option_map (λ bytes. bytes.items) block

-- the length of a block; an absent one has none
abbrev pub block_length : Option (List ℕ) → ℕ
block_length None = 0
block_length (Some block) = length block
