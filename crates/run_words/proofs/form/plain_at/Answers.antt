use Rattle.std.proofs.Common.{◌≡◌, ◌∙◌, ◌+◌, ◌∷◌, Some, true, ap, sym, map, string_bytes, drop, arith}
use Rattle.run_words.specs.Forms.{plain_at}
use Rattle.run_words.specs.Words.{is_plain}
use Rattle.run_words.proofs.WordLaws.{drop-word, drop-words, plain_at-first, plain_at-next, plain_at-other}
use Rattle.run_words.proofs.form.plain_at.Goals as goal
use Rattle.run_words.proofs.form.plain_at.Goals.{then-is_plain+else-left-eq0, else-is_plain}

pub returns-then-left-eq0 : goal.returns-then-left-eq0
returns-then-left-eq0 c =
    let here = string_bytes c.word-item.result in
    let more = drop (c.loop-word.word-index + 1) (map string_bytes c.args.words.now) in
    let step = drop-word c.args.words.now c.loop-word.word-index c.loop-word-test.true c.word-item.is in
    let plain : is_plain here ≡ true = ap is_plain (sym c.as_bytes.ensures.value) ∙ sym c.if-is_plain.ensures in
    ap Some c.as_str.ensures.value ∙ sym (plain_at-first here more plain) ∙ ap (λ left. plain_at left (here ∷ more)) (sym c.if-left-eq0.true)
    ∙ sym (ap (plain_at c.loop-word.left) step) ∙ c.loop-word.invariant

pub loop-word-preserved : goal.loop-word-preserved
loop-word-preserved c =
    let here = string_bytes c.word-item.result in
    let more = drop (c.loop-word.word-index + 1) (map string_bytes c.args.words.now) in
    let step = drop-word c.args.words.now c.loop-word.word-index c.loop-word-test.true c.word-item.is in
    let tested = ap is_plain (sym c.as_bytes.ensures.value) ∙ sym c.is_plain.ensures in
    let before = sym (ap (plain_at c.loop-word.left) step) ∙ c.loop-word.invariant in
    elim c.if-is_plain.branch [
      | then-is_plain+else-left-eq0 w ↦ rw w.left-is (sym (plain_at-next here more c.loop-word.left (tested ∙ w.if-is_plain.true) (omega arith)) ∙ before)
      | else-is_plain w ↦ rw w.left-is (sym (plain_at-other here more c.loop-word.left (tested ∙ w.if-is_plain.false)) ∙ before)
    ]

pub returns : goal.returns
returns c = sym (ap (plain_at c.loop-word.left) (drop-words c.args.words.now c.loop-word.word-index (omega arith))) ∙ c.loop-word.invariant
