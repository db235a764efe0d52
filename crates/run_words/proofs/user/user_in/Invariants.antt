use Rattle.std.proofs.Common.{◌≡◌, ◌++◌, IsUtf8, List, ℕ}
use Rattle.std.specs.Prelude.{chars}
use Rattle.std.specs.Option.{option_map}
use Rattle.std.specs.Str.Iter.{chars_rest}
use Rattle.memo_texts.specs.Characters.{bytes_of}
use Rattle.run_words.proofs.user.user_in.Given as goal

abbrev pub invariant-loop-ch : goal.invariant-loop-ch
invariant-loop-ch l = record {
  utf8 : IsUtf8 (chars_rest l.ch-iterator);
  bytes : option_map (λ (rest : List ℕ). l.bytes.items ++ rest) (bytes_of (chars (chars_rest l.ch-iterator))) ≡ bytes_of (chars l.fn.word);
}
