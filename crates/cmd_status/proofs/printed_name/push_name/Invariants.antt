use Rattle.std.proofs.Common.{◌≡◌, ◌++◌, string_bytes, length}
use Rattle.cmd_status.specs.PrintedNames.{printed_name}
use Rattle.cmd_status.proofs.printed_name.push_name.Given as goal

abbrev pub invariant-loop-byte : goal.invariant-loop-byte
invariant-loop-byte l = string_bytes l.line ++ printed_name l.rest ≡ string_bytes l.initial.line ++ printed_name l.initial.rest

abbrev pub decreases-loop-byte : goal.decreases-loop-byte
decreases-loop-byte l = length l.rest
