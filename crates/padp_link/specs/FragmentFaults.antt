-- Why bytes are no fragment.
use Rattle.std.specs.Prelude.{ℕ, ◌-◌, List, length, drop, slice_index, nat_eq, nat_lt, if◌then◌else◌, Option, Some, None}
use Rattle.byteorder.specs.Endian.{big_number}
use Rattle.padp_link.specs.declared.fragment.PadpKind.{PadpKind}
use Rattle.padp_link.specs.declared.fragment.PadpKind.TheVariants.{Data, Ack, Tickle, Abort}
use Rattle.padp_link.specs.declared.fragment.FragmentFault.{FragmentFault}
use Rattle.padp_link.specs.declared.fragment.FragmentFault.TheVariants.{Short, BadType, BadFlags, BadSize}
use Rattle.padp_link.specs.Numbers.{header_len, kind_place, flags_place, size_place}
use Rattle.padp_link.specs.FragmentText.{is_kind, are_flags, fits_size}

-- the kind that a byte says, where it says one
abbrev pub kind_said : ℕ → PadpKind
kind_said code =
    if nat_eq code 1 then Data
    else (if nat_eq code 2 then Ack else (if nat_eq code 4 then Tickle else Abort))

-- the first rule behind the kind that bytes of at least a header break
abbrev pub fault_of_kind : PadpKind → List ℕ → Option FragmentFault
fault_of_kind kind bytes =
    if are_flags kind (slice_index bytes flags_place)
    then (if fits_size kind (slice_index bytes flags_place) (big_number 2 (drop size_place bytes))
    (length bytes - header_len) then None else Some BadSize) else Some BadFlags

-- the first rule that the bytes break: they have a header, its kind is one of the four, the flags
-- are its own, the size fits
abbrev pub fragment_fault : List ℕ → Option FragmentFault
fragment_fault bytes =
    if nat_lt (length bytes) header_len then Some Short else
    (if is_kind (slice_index bytes kind_place)
    then fault_of_kind (kind_said (slice_index bytes kind_place)) bytes else Some BadType)
