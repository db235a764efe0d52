use Rattle.std.proofs.Common.{◌≡◌, ℕ, ◌<◌}
use Rattle.palm_records.specs.Characters.{char_of}
use Rattle.memo_texts.proofs.character.byte_below.Given as goal

abbrev pub invariant-loop-byte : goal.invariant-loop-byte
invariant-loop-byte l = (b : ℕ) → b < l.byte → char_of b ≡ l.ch → ⊥
