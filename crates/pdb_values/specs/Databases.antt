-- What contracts see of a database, and what each database keeps (Palm File Format Specification).
use Rattle.std.specs.Prelude.{◌≡◌, ◌≤◌, ℕ, true, false, List, [], length, All, Option}
use Rattle.pdb_values.specs.declared.head.DbHead.{DbHead}
use Rattle.pdb_values.specs.declared.record.Record.{Record}
use Rattle.pdb_values.specs.declared.resource.Resource.{Resource}
use Rattle.pdb_values.specs.Blocks.{block_length}
use Rattle.pdb_values.specs.Heads.{holds_resources}

-- a database is its head, its two blocks, where they are there, and its entries in order
pub record DatabaseValue : Type 0 where
  pub head : DbHead
  pub app : Option (List ℕ)
  pub sort : Option (List ℕ)
  pub records : List Record
  pub resources : List Resource

-- a resource of at most 65,500 bytes
abbrev pub IsShortResource : Resource → Type 0
IsShortResource resource = length resource.bytes ≤ 65500

-- entries of one sort, at most 65,535 of them, and nothing of more than 65,500 bytes
pub record IsDatabase (database : DatabaseValue) : Type 0 where
  pub few_records : length database.records ≤ 65535
  pub few_resources : length database.resources ≤ 65535
  pub no_records : holds_resources database.head.attributes ≡ true → database.records ≡ []
  pub no_resources : holds_resources database.head.attributes ≡ false → database.resources ≡ []
  pub short_app : block_length database.app ≤ 65500
  pub short_sort : block_length database.sort ≤ 65500
  pub short_resources : All IsShortResource database.resources
