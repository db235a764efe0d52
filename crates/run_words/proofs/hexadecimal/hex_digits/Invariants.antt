use Rattle.std.proofs.Common.{◌≡◌, ◌==◌, not, take}
use Rattle.std.specs.Prelude.{filter}
use Rattle.run_words.proofs.hexadecimal.hex_digits.Given as goal

abbrev pub invariant-loop-byte : goal.invariant-loop-byte
invariant-loop-byte l = l.digits.items ≡ filter (λ byte. not (byte == 32)) (take l.byte-index l.byte-items)
