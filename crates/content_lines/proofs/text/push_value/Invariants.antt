use Rattle.std.proofs.Common.{◌≡◌, ◌++◌, string_bytes, drop}
use Rattle.std.specs.Prelude.{chars}
use Rattle.palm_records.specs.Characters.{characters}
use Rattle.content_lines.specs.Lines.{escaped}
use Rattle.content_lines.proofs.text.push_value.Given as goal

abbrev pub invariant-loop-byte : goal.invariant-loop-byte
invariant-loop-byte l =
    chars (string_bytes l.line) ++ escaped (characters (drop l.byte-index l.text)) ≡ chars (string_bytes l.initial.line) ++ escaped (characters l.text)
