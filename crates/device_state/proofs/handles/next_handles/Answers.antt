-- Each handle is set to what its string says; where a string is none, the bytes are no text of handles.
use Rattle.std.proofs.Common.{◌≡◌, ◌++◌, ◌+◌, ◌-◌, ◌<◌, ◌^◌, length, None, IsErr, arith, rules, sym, ap, ◌∙◌}
use Rattle.std.proofs.lemmas.List.{length-set}
use Rattle.palm_device.specs.Handles.{opened_at}
use Rattle.device_state.specs.Strings.{string_text}
use Rattle.device_state.specs.Opened.{handles_text, opened_text}
use Rattle.device_state.proofs.HandleLaws.{handle_begins, handle_end, handles_text-more, handles_text-none, named_more}
use Rattle.device_state.proofs.TalkStringLaws.{rest_short}
use Rattle.device_state.proofs.handles.next_handles.Goals as goal

pub loop-handle-init : goal.loop-handle-init
loop-handle-init c = record {
  text = sym (ap (λ t. t ++ c.args.bytes.now) (handles_text-none 1 c.new-handles.result));
  eight = ap length c.new-handles.ensures;
  named = λ k low high. absurd (omega arith);
  ends = λ handles rest is. is;
}

pub returns-in_err-front-clause-form : goal.returns-in_err-front-clause-form
returns-in_err-front-clause-form c = λ _ handles rest named whole.
    let handle = c.loop-handle.handle in
    let none : c.next_string.result ≡ None = search rules in
    c.next_string.ensures.none none (opened_text (opened_at handle handles)) (handles_text (handle + 1) (9 - (handle + 1)) handles ++ rest)
    (handle_begins handle handles rest (omega arith) (c.loop-handle.invariant.ends handles rest whole))

pub returns-in_err-opened_of-clause-form : goal.returns-in_err-opened_of-clause-form
returns-in_err-opened_of-clause-form c = λ _ handles rest named whole.
    let handle = c.loop-handle.handle in
    let front = c.in_ok-front.front in
    let found : c.loop-handle.rest.now ≡ string_text front.string.now ++ front.rest.now = search rules in
    let short : length c.loop-handle.rest.now < 2 ^ 64 = rest_short (handles_text 1 (handle - 1) c.loop-handle.handles) c.loop-handle.rest.now
    c.loop-handle.invariant.text (omega arith) in
    let cut = handle_end handle handles front.string.now front.rest.now rest (omega arith) short found (c.loop-handle.invariant.ends handles rest whole) in
    let refused : IsErr c.opened_of.result = search rules in
    c.opened_of.ensures.form refused (opened_at handle handles) (named handle (omega arith) (omega arith)) cut.0

pub loop-handle-preserved : goal.loop-handle-preserved
loop-handle-preserved c =
    let handle = c.loop-handle.handle in
    let slot = c.in_ok-opened_of.field-0 in
    let was = c.loop-handle.handles in
    let front = c.in_ok-front.front in
    let found : c.loop-handle.rest.now ≡ string_text front.string.now ++ front.rest.now = search rules in
    let short : length c.loop-handle.rest.now < 2 ^ 64 = rest_short (handles_text 1 (handle - 1) c.loop-handle.handles) c.loop-handle.rest.now
    c.loop-handle.invariant.text (omega arith) in
    let set = c.set.ensures in
    record {
      text = rw set (handles_text-more handle slot was front.rest.now (omega arith) (omega arith) c.loop-handle.invariant.eight
          c.loop-handle.invariant.text found
          c.in_ok-opened_of.ensures.ok);
      eight = rw set (length-set was (handle - 1) slot ∙ c.loop-handle.invariant.eight);
      named = rw set (named_more handle slot was (omega arith) (omega arith) c.loop-handle.invariant.eight c.in_ok-opened_of.ensures.named
          c.loop-handle.invariant.named);
      ends = λ handles rest whole.
          (handle_end handle handles front.string.now front.rest.now rest (omega arith) short found (c.loop-handle.invariant.ends handles rest whole)).1;
    }
