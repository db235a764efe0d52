use Rattle.std.proofs.lemmas.Bool.Decides.{nat_tests}
use Rattle.std.proofs.Common.{◌≡◌, arith, ap, sym, ◌∙◌, ◌+◌, Ok, length}
use Rattle.memo_texts.specs.Flaws.{line_flaw}
use Rattle.memo_texts.specs.Readings.{memos_from}
use Rattle.memo_texts.proofs.ReadingLaws.{memos_from-bad, memos_from-end, memos_from-line, text_fault}
use Rattle.memo_texts.proofs.memo_text.memos_in.Goals as goal

pub loop-rest-preserved : goal.loop-rest-preserved
loop-rest-preserved c = record {
  memos =
      let number = c.loop-rest.number + 1 in
      let lines = ap (memos_from number c.loop-rest.reading) c.split_line.ensures.lines in
      sym (memos_from-line number c.loop-rest.reading c.in-Ok.longer c.split_line.result.0.now _ c.in-Ok.ensures) ∙ (sym lines ∙ c.loop-rest.invariant.memos);
  few = omega (arith, c.loop-rest.invariant.few, c.split_line.ensures.shorter);
}

pub returns-in-Err-clause-fault : goal.returns-in-Err-clause-fault
returns-in-Err-clause-fault c =
    let number = c.loop-rest.number + 1 in
    let lines = ap (memos_from number c.loop-rest.reading) c.split_line.ensures.lines in
    let line = c.split_line.result.0.now in
    text_fault c.in-Err.fault c.at.result number (line_flaw c.loop-rest.reading.last line) _ c.at.ensures
    (λ some.
    let bad = c.in-Err.ensures some in
    (bad.0, sym c.loop-rest.invariant.memos ∙ (lines ∙ memos_from-bad number c.loop-rest.reading line _ bad.1)))

pub returns-clause-memos : goal.returns-clause-memos
returns-clause-memos c =
    let none : length c.loop-rest.rest.now ≡ 0 = grind (arith, nat_tests) in
    sym c.loop-rest.invariant.memos ∙ (memos_from-end (c.loop-rest.number + 1) c.loop-rest.reading c.loop-rest.rest.now none ∙ ap Ok (sym c.in_ok-memos.ensures))
