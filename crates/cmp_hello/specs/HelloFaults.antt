-- Why bytes are no greeting.
use Rattle.std.specs.Prelude.{ℕ, List, length, slice_index, Bool, ◌&&◌, nat_eq, nat_le, if◌then◌else◌, Option, Some, None}
use Rattle.cmp_hello.specs.declared.hello.HelloFault.{HelloFault}
use Rattle.cmp_hello.specs.declared.hello.HelloFault.TheVariants.{Length, Kind, Version}
use Rattle.cmp_hello.specs.Numbers.{hello_len, kind_place, major_place, major_version}

-- the byte says one of the three kinds
abbrev pub is_kind : ℕ → Bool
is_kind code = nat_le 1 code && nat_le code 3

-- the first rule that the bytes break: they are ten, the kind is one of the three, the major
-- version is 1
abbrev pub hello_fault : List ℕ → Option HelloFault
hello_fault bytes =
    if nat_eq (length bytes) hello_len then (if is_kind (slice_index bytes kind_place) then
    (if nat_eq (slice_index bytes major_place) major_version then None else Some Version)
    else Some Kind) else Some Length
