use Rattle.std.proofs.Common.{◌≡◌, ◌+◌, ◌++◌, IsUtf8, List, length, ℕ}
use Rattle.std.specs.Prelude.{chars}
use Rattle.std.specs.Option.{option_map}
use Rattle.std.specs.Str.Iter.{chars_rest}
use Rattle.memo_texts.specs.Characters.{bytes_of}
use Rattle.memo_texts.specs.Flaws.{flaw_from}
use Rattle.memo_texts.proofs.character.text_bytes.Given as goal

abbrev pub invariant-loop-ch : goal.invariant-loop-ch
invariant-loop-ch l = record {
  utf8 : IsUtf8 (chars_rest l.ch-iterator);
  bytes : option_map (λ (rest : List ℕ). l.bytes.items ++ rest) (bytes_of (chars (chars_rest l.ch-iterator))) ≡ bytes_of (chars l.fn.text);
  flaw : flaw_from (length l.bytes.items + 1) (chars (chars_rest l.ch-iterator)) ≡ flaw_from 1 (chars l.fn.text);
}
