-- Edits of resources (Palm File Format Specification, resource entries of a PRC).
use Rattle.std.specs.Prelude.{ℕ, List, Option, None, Some, slice_get, slice_set}
use Rattle.std.specs.Option.{option_map}
use Rattle.pdb_values.specs.declared.resource.Resource.{Resource}

-- a resource with other bytes
abbrev pub with_bytes : List ℕ → Resource → Resource
with_bytes bytes resource = record resource { bytes = bytes }

-- with another resource at a place, where there is one
abbrev pub set_some : List Resource → ℕ → Option Resource → List Resource
set_some resources place None = resources
set_some resources place (Some resource) = slice_set resources place resource

-- with other bytes in the resource at a place
abbrev pub with_bytes_at : List Resource → ℕ → List ℕ → List Resource
with_bytes_at resources place bytes =
    set_some resources place (option_map (with_bytes bytes) (slice_get resources place))
