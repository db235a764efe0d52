-- The blocks that a session writes into a database of the handheld.
use Rattle.std.specs.Prelude.{ℕ, List, Option, None, Some}
use Rattle.pdb_values.specs.Databases.{DatabaseValue}
use Rattle.palm_device.specs.Blocks.{block_or_none}

-- an app block and a sort block, where they are written
pub record GivenBlocks : Type 0 where
  pub app : Option (List ℕ)
  pub sort : Option (List ℕ)

abbrev pub no_blocks : GivenBlocks
no_blocks = record { app = None; sort = None }

-- a block that has bytes: one of no bytes is none on a handheld
abbrev pub block_with_bytes : Option (List ℕ) → Option (List ℕ)
block_with_bytes None = None
block_with_bytes (Some bytes) = block_or_none bytes

-- those of a database that may not be there
abbrev pub blocks_of : Option DatabaseValue → GivenBlocks
blocks_of None = no_blocks
blocks_of (Some database) = record {
  app = block_with_bytes database.app;
  sort = block_with_bytes database.sort;
}

-- a database that the handheld lacks is made with the blocks of the desktop's rows
abbrev pub blocks_for : Option DatabaseValue → Option DatabaseValue → GivenBlocks
blocks_for (Some handheld) rows = no_blocks
blocks_for None rows = blocks_of rows

-- a block of a database, where this one is written over it
abbrev pub block_over : Option (List ℕ) → Option (List ℕ) → Option (List ℕ)
block_over None own = own
block_over (Some bytes) own = block_or_none bytes

-- a database into which these are written
abbrev pub with_blocks : GivenBlocks → DatabaseValue → DatabaseValue
with_blocks blocks database = record database {
  app = block_over blocks.app database.app;
  sort = block_over blocks.sort database.sort;
}
