-- Each handle's string is appended.
use Rattle.std.proofs.Common.{◌≡◌, ◌++◌, Option, sym, ap, ◌∙◌, subst, append-nil, arith}
use Rattle.palm_device.specs.Handles.{opened_at}
use Rattle.palm_device.specs.declared.opened.Opened.{Opened}
use Rattle.device_state.specs.Strings.{string_text}
use Rattle.device_state.specs.Opened.{IsNamed, opened_text}
use Rattle.device_state.proofs.HandleLaws.{handles_text-none, handles_text-written, named_next}
use Rattle.device_state.proofs.handles.push_handles.Goals as goal

pub loop-handle-init : goal.loop-handle-init
loop-handle-init c = record {
  text = sym (ap (λ t. c.args.out.now.items ++ t) (handles_text-none 1 c.args.handles.now) ∙ append-nil c.args.out.now.items);
  named = λ k low high. absurd (omega arith);
}

pub loop-handle-preserved : goal.loop-handle-preserved
loop-handle-preserved c =
    let handle = c.loop-handle.handle in
    let handles = c.args.handles.now in
    let P : Option Opened → Type 0 = IsNamed in
    let bytes : c.deref.result.now ≡ opened_text (opened_at handle handles) =
    c.deref.ensures.0 ∙ (c.opened_bytes.ensures.bytes ∙ ap opened_text c.opened_at.ensures.opened) in
    record {
      text = handles_text-written handle handles c.args.out.now.items (omega arith) c.loop-handle.invariant.text
          (c.in_ok-push_string.ensures.ok ∙ ap (λ s. c.loop-handle.out.items ++ string_text s) bytes);
      named = named_next handle handles (subst P c.opened_at.ensures.opened c.opened_bytes.ensures.named) c.loop-handle.invariant.named;
    }
