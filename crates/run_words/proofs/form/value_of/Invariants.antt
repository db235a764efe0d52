use Rattle.std.proofs.Common.{◌≡◌, map, string_bytes, drop}
use Rattle.run_words.specs.Forms.{value_of}
use Rattle.run_words.proofs.form.value_of.Given as goal

abbrev pub invariant-loop-word : goal.invariant-loop-word
invariant-loop-word l = value_of l.name (drop l.word-index (map string_bytes l.words)) ≡ value_of l.name (map string_bytes l.words)
