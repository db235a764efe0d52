use Rattle.std.proofs.Common.{ℕ, ◌<◌, below_more, ◌≡◌, ◌∙◌, ◌+◌, ◌*◌, true, not, arith, ap, sym}
use Rattle.std.specs.Prelude.{is_some}
use Rattle.palm_records.specs.Days.{day_in, day_of, is_day}
use Rattle.palm_events.specs.Forms.{is_record_day}
use Rattle.palm_events.specs.Words.{word_at}
use Rattle.palm_events.proofs.FormLaws.{is_record_day-day_of}
use Rattle.palm_events.proofs.ExceptionLaws.{goes_on, is_done, is_some-day_in, stops}
use Rattle.palm_events.proofs.exceptions.days_fault.Goals as goal

pub returns-then-is_none-clause-fault : goal.returns-then-is_none-clause-fault
returns-then-is_none-clause-fault c =
    let word = word_at c.args.bytes.now (c.args.place + 2 * c.loop-index.index) in
    let found = ap is_some (c.day_in.ensures.day ∙ ap day_in c.word_at.ensures) ∙ is_some-day_in word in
    sym (stops c.args.count c.loop-index.index c.args.place c.args.bytes.now c.loop-index-test.true (sym found ∙ (c.is_none.ensures ∙ ap not c.if-is_none.true)) c.loop-index.invariant.so_far)

pub loop-index-preserved : goal.loop-index-preserved
loop-index-preserved c =
    let index = c.loop-index.index in
    let word = word_at c.args.bytes.now (c.args.place + 2 * index) in
    let found = ap is_some (c.day_in.ensures.day ∙ ap day_in c.word_at.ensures) ∙ is_some-day_in word in
    let is : is_day (day_of word) ≡ true = sym found ∙ (c.is_none.ensures ∙ ap not c.if-is_none.false) in
    let low : word < 65536 = rw c.word_at.ensures at c.word_at.type_inv in
    record {
      so_far = goes_on c.args.count index c.args.place c.args.bytes.now c.loop-index-test.true is c.loop-index.invariant.so_far;
      form = below_more (λ (index : ℕ). is_record_day (day_of (word_at c.args.bytes.now (c.args.place + 2 * index))) ≡ true) index
          c.loop-index.invariant.form (is_record_day-day_of word low ∙ is);
    }

pub returns-clause-fault : goal.returns-clause-fault
returns-clause-fault c = sym (is_done c.args.count c.loop-index.index c.args.place c.args.bytes.now (omega (arith, c.loop-index-test.false)) c.loop-index.invariant.so_far)
