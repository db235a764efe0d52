use Rattle.std.proofs.Common.{◌≡◌, ◌++◌, length}
use Rattle.folder_files.specs.StemTexts.{stem_bytes}
use Rattle.folder_files.proofs.stem.named_by.Given as goal

abbrev pub decreases-loop-byte : goal.decreases-loop-byte
decreases-loop-byte l = length l.rest

abbrev pub invariant-loop-byte : goal.invariant-loop-byte
invariant-loop-byte l = stem_bytes l.text ≡ l.bytes.items ++ stem_bytes l.rest
