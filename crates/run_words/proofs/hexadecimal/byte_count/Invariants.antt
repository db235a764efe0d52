use Rattle.std.proofs.Common.{◌≡◌, ◌≤◌, ◌+◌, length}
use Rattle.run_words.specs.Words.{byte_count}
use Rattle.run_words.proofs.HexLaws.{onward}
use Rattle.run_words.proofs.hexadecimal.byte_count.Given as goal

abbrev pub invariant-loop-rest : goal.invariant-loop-rest
invariant-loop-rest l = record {
  count : onward l.count (byte_count l.rest) ≡ byte_count l.text;
  few : l.count + length l.rest ≤ length l.text;
}

abbrev pub decreases-loop-rest : goal.decreases-loop-rest
decreases-loop-rest l = length l.rest
