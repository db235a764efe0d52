use Rattle.std.proofs.Common.{◌≡◌, ◌++◌, string_bytes, take}
use Rattle.memo_texts.specs.ExportHeads.{label_chars}
use Rattle.memo_texts.proofs.export_head.push_label_chars.Given as goal

abbrev pub invariant-loop-byte : goal.invariant-loop-byte
invariant-loop-byte l = string_bytes l.text ≡ string_bytes l.initial.text ++ label_chars (take l.byte-index l.label)
