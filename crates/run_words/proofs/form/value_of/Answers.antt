use Rattle.std.proofs.Common.{◌∙◌, ◌+◌, drop, ap, sym, map, string_bytes, arith}
use Rattle.run_words.specs.Forms.{value_of}
use Rattle.run_words.proofs.WordLaws.{drop-word, drop-words, value_of-first, value_of-next}
use Rattle.run_words.proofs.form.value_of.Goals as goal

pub returns-in-Some : goal.returns-in-Some
returns-in-Some c =
    let name = c.args.name.now in
    let here = string_bytes c.word-item.result in
    let more = drop (c.loop-word.word-index + 1) (map string_bytes c.args.words.now) in
    let step = drop-word c.args.words.now c.loop-word.word-index c.loop-word-test.true c.word-item.is in
    let met = rw c.as_str.ensures.value at c.in-Some.ensures in
    value_of-first name here more met ∙ sym (ap (value_of name) step) ∙ c.loop-word.invariant

pub loop-word-preserved : goal.loop-word-preserved
loop-word-preserved c =
    let name = c.args.name.now in
    let here = string_bytes c.word-item.result in
    let more = drop (c.loop-word.word-index + 1) (map string_bytes c.args.words.now) in
    let step = drop-word c.args.words.now c.loop-word.word-index c.loop-word-test.true c.word-item.is in
    let met = rw c.as_str.ensures.value at c.in_default.ensures in
    value_of-next name here more met ∙ sym (ap (value_of name) step) ∙ c.loop-word.invariant

pub returns : goal.returns
returns c = sym (ap (value_of c.args.name.now) (drop-words c.args.words.now c.loop-word.word-index (omega arith))) ∙ c.loop-word.invariant
