use Rattle.std.proofs.Common.{◌≡◌, map, string_bytes, drop}
use Rattle.run_words.specs.Forms.{plain_at}
use Rattle.run_words.proofs.form.plain_at.Given as goal

abbrev pub invariant-loop-word : goal.invariant-loop-word
invariant-loop-word l = plain_at l.left (drop l.word-index (map string_bytes l.words)) ≡ plain_at l.place (map string_bytes l.words)
