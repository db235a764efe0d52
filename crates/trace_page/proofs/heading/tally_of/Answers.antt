-- Each frame is counted where it passes.
use Rattle.std.proofs.Common.{◌≡◌, ◌==◌, ◌≤◌, ◌<◌, ◌+◌, ◌∙◌, ℕ, Bool, true, false, not, ap, length, get_or, arith}
use mir.Val.{bool_byte}
use Rattle.std.specs.Prelude.{if◌then◌else◌}
use Rattle.trace_text.specs.TraceLines.{frame_value}
use Rattle.trace_page.specs.Bearings.{borne}
use Rattle.trace_page.specs.Pages.{is_again, is_disturbed, is_new_request, is_request, times}
use Rattle.trace_page.proofs.SeenLaws.{counted-more, past_at, run-at, seen-more, times-at}
use Rattle.trace_page.proofs.heading.tally_of.Goals as goal

pub pass-place-requires : goal.pass-place-requires
pass-place-requires c =
    let inside : c.loop-frame.frame-index < length c.args.frames.now = c.loop-frame-test.true in
    let few = run-at c.frame-item.result.from c.args.frames.now c.loop-frame.frame-index (omega (arith, inside)) in
    rw c.loop-frame.invariant.seen (omega (arith, few, inside))

add_one : (n m rest before all : ℕ) (b : Bool) → m ≡ bool_byte b → (if b then 1 else 0) + rest ≡ before → n + before ≡ all → n + m + rest ≡ all
add_one n m rest before all true is more so = omega (arith, is, more, so)
add_one n m rest before all false is more so = omega (arith, is, more, so)

few_one : (n m i : ℕ) (b : Bool) → m ≡ bool_byte b → n ≤ i → n + m ≤ i + 1
few_one n m i true is few = omega (arith, is, few)
few_one n m i false is few = omega (arith, is, few)

pub loop-frame-preserved : goal.loop-frame-preserved
loop-frame-preserved c =
    let frames = c.args.frames.now in
    let i = c.loop-frame.frame-index in
    let frame = c.frame-item.result in
    let inside : i < length frames = c.loop-frame-test.true in
    let is : frame ≡ get_or frames i frame = c.frame-item.is in
    let bears : c.of-bearing.result ≡ borne frame.bytes.items = c.of-bearing.ensures ∙ ap borne c.as_slice.ensures.value in
    let known = c.loop-frame.invariant.seen in
    let told = c.pass-place.ensures in
    let value = frame_value frame in
    let past = past_at frames i in
    let counted_is : c.pass-place.result.times ≡ times past value =
    told.times ∙ times-at frames i frame c.loop-frame.seen c.of-bearing.result known bears in
    let requests : c.from.result ≡ bool_byte (is_request (times past value) value) =
    c.from.ensures ∙ ap bool_byte (c.is_request.ensures ∙ (ap (λ n. is_new_request n frame.from c.of-bearing.result) counted_is
    ∙ ap (λ b. is_new_request (times past value) frame.from b) bears)) in
    let disturbed : c.from-in-loop-frame.result ≡ bool_byte (is_disturbed (times past value) value) =
    c.from-in-loop-frame.ensures ∙ ap (λ b. bool_byte (not b)) c.is_untouched.ensures in
    let again : c.from-in-loop-frame-2.result ≡ bool_byte (is_again (times past value) value) =
    c.from-in-loop-frame-2.ensures ∙ ap (λ n. bool_byte (not (n == 0))) counted_is in
    record {
      seen = told.seen ∙ seen-more frames i frame c.loop-frame.seen c.of-bearing.result inside is known bears;
      requests = add_one _ _ _ _ _ _ requests (counted-more is_request frames i frame inside is) c.loop-frame.invariant.requests;
      disturbed = add_one _ _ _ _ _ _ disturbed (counted-more is_disturbed frames i frame inside is) c.loop-frame.invariant.disturbed;
      again = add_one _ _ _ _ _ _ again (counted-more is_again frames i frame inside is) c.loop-frame.invariant.again;
      few_requests = few_one _ _ _ _ requests c.loop-frame.invariant.few_requests;
      few_disturbed = few_one _ _ _ _ disturbed c.loop-frame.invariant.few_disturbed;
      few_again = few_one _ _ _ _ again c.loop-frame.invariant.few_again;
    }
