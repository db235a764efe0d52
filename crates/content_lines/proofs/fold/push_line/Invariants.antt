use Rattle.std.proofs.Common.{◌≡◌, ◌≤◌, ◌++◌, IsUtf8, string_bytes}
use Rattle.std.specs.Prelude.{chars, encode_utf8_all}
use Rattle.std.specs.Str.Iter.{chars_rest}
use Rattle.content_lines.specs.Lines.{folded}
use Rattle.content_lines.proofs.fold.push_line.Given as goal

abbrev pub invariant-loop-ch : goal.invariant-loop-ch
invariant-loop-ch l =
    IsUtf8 (chars_rest l.ch-iterator) × (l.used ≤ 75)
    × (string_bytes l.text ++ encode_utf8_all (folded l.used (chars (chars_rest l.ch-iterator)))
    ≡ string_bytes l.fn.text ++ encode_utf8_all (folded 0 (chars l.fn.line)))
