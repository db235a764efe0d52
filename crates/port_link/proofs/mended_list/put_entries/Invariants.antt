use Rattle.std.proofs.Common.{◌≡◌, ◌≤◌, ◌+◌, ◌-◌, ◌*◌, ◌++◌, length}
use Rattle.port_link.specs.Mended.{entries_again}
use Rattle.port_link.proofs.mended_list.put_entries.Given as goal

abbrev pub invariant-loop : goal.invariant-loop
invariant-loop l =
    (l.out ++ entries_again (l.count - l.counter) l.rest ≡ l.initial.out ++ entries_again l.count l.bytes)
    × (length l.out ≤ length l.initial.out + 77 * l.counter) × (length l.initial.out + 77 * l.count ≤ 65535)
