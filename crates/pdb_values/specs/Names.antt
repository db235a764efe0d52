-- Names of databases (Palm File Format Specification, name in the header).
use Rattle.std.specs.Prelude.{◌≡◌, ◌<◌, ◌≤◌, ◌==◌, ℕ, List, length, position, nat_lt, Option, Some, None, if◌then◌else◌}
use Rattle.std.specs.Option.{option_map}
use Rattle.pdb_values.specs.declared.name.NameFault.{NameFault}
use Rattle.pdb_values.specs.declared.name.NameFault.TheVariants.{Empty, TooLong, BadByte}

-- 1 to 31 bytes, none of them zero
pub record IsName (bytes : List ℕ) : Type 0 where
  pub some : 0 < length bytes
  pub short : length bytes ≤ 31
  pub nonzero : position (λ byte. byte == 0) bytes ≡ None

-- the first rule that the bytes of a name break
abbrev pub name_fault : List ℕ → Option NameFault
name_fault bytes =
    if length bytes == 0 then Some Empty else if nat_lt 31 (length bytes) then Some TooLong
    else option_map (λ place. BadByte place)
    (position (λ byte. byte == 0) bytes)
