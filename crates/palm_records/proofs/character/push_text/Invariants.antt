use Rattle.std.proofs.Common.{◌≡◌, ◌++◌, string_bytes, drop}
use Rattle.std.specs.Prelude.{encode_utf8_all}
use Rattle.palm_records.specs.Characters.{characters}
use Rattle.palm_records.proofs.character.push_text.Given as goal

abbrev pub invariant-loop-byte : goal.invariant-loop-byte
invariant-loop-byte l =
    string_bytes l.text ++ encode_utf8_all (characters (drop l.byte-index l.bytes)) ≡ string_bytes l.initial.text ++ encode_utf8_all (characters l.bytes)
