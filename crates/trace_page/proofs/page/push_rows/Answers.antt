-- Each row goes behind those before it.
use Rattle.std.proofs.Common.{◌≡◌, ◌<◌, ◌++◌, ◌+◌, ◌∙◌, ap, length, get_or, arith}
use Rattle.std.specs.Prelude.{string_bytes}
use Rattle.trace_text.specs.TraceLines.{frame_value}
use Rattle.trace_page.specs.Bearings.{borne}
use Rattle.trace_page.specs.Pages.{row, rows}
use Rattle.trace_page.specs.Seen.{side_in}
use Rattle.trace_page.proofs.SeenLaws.{past_at, rest_at, row-at, rows-more, run-at, seen-more}
use Rattle.trace_page.proofs.page.push_rows.Goals as goal

pub pass-place-requires : goal.pass-place-requires
pass-place-requires c =
    let inside : c.loop-frame.frame-index < length c.args.frames.now = c.loop-frame-test.true in
    let few = run-at c.frame-item.result.from c.args.frames.now c.loop-frame.frame-index (omega (arith, inside)) in
    rw c.loop-frame.invariant.seen (omega (arith, few, inside))

pub loop-frame-preserved : goal.loop-frame-preserved
loop-frame-preserved c =
    let frames = c.args.frames.now in
    let i = c.loop-frame.frame-index in
    let frame = c.frame-item.result in
    let inside : i < length frames = c.loop-frame-test.true in
    let is : frame ≡ get_or frames i frame = c.frame-item.is in
    let bears : c.of-bearing.result ≡ borne frame.bytes.items = c.of-bearing.ensures ∙ ap borne c.as_slice.ensures.value in
    let known = c.loop-frame.invariant.seen in
    let told = c.pass-place.ensures in
    let row_is = row-at frames i frame c.loop-frame.seen c.of-bearing.result inside is known bears c.pass-place.result.times c.pass-place.result.front
    told.times (told.front ∙ ap (λ s. (side_in frame.from s).front) told.seen) in
    let text : string_bytes c.push_row.new.text ≡ string_bytes c.loop-frame.text ++ row (past_at frames i) (frame_value frame) =
    c.in_ok-push_row.ensures ∙ ap (λ r. string_bytes c.loop-frame.text ++ r) row_is in
    record {
      seen = told.seen ∙ seen-more frames i frame c.loop-frame.seen c.of-bearing.result inside is known bears;
      text = ap (λ t. t ++ rows (past_at frames (i + 1)) (rest_at frames (i + 1))) text
          ∙ (rows-more (string_bytes c.loop-frame.text) frames i frame inside is ∙ c.loop-frame.invariant.text);
    }
