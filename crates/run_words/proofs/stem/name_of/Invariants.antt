use Rattle.std.proofs.Common.{◌≡◌, length}
use Rattle.run_words.specs.StemNames.{bytes_of_stem}
use Rattle.run_words.proofs.StemLaws.{behind}
use Rattle.run_words.proofs.stem.name_of.Given as goal

abbrev pub invariant-loop-rest : goal.invariant-loop-rest
invariant-loop-rest l = behind l.bytes.items (bytes_of_stem l.rest) ≡ bytes_of_stem l.stem

abbrev pub decreases-loop-rest : goal.decreases-loop-rest
decreases-loop-rest l = length l.rest
