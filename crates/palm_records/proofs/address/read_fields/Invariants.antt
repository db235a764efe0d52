use Rattle.std.proofs.Common.{◌≡◌, ◌≤◌, [], length, map, option_copied, ◌-◌, take}
use Rattle.palm_records.specs.Addresses.{fields_at}
use Rattle.palm_records.proofs.address.read_fields.Given as goal

abbrev pub invariant-loop-number : goal.invariant-loop-number
invariant-loop-number l = record {
  fields : fields_at (19 - l.number) l.bits (map option_copied (take l.number l.all)) l.rest ≡ fields_at 19 l.initial.bits [] l.bytes;
  size : length l.all ≡ 19;
  shorter : length l.rest ≤ length l.bytes;
}
