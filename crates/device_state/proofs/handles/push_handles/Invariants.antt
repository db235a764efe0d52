use Rattle.std.proofs.Common.{◌≡◌, ◌++◌, ℕ, ◌-◌, ◌<◌}
use Rattle.palm_device.specs.Handles.{opened_at}
use Rattle.device_state.specs.Opened.{IsNamed, handles_text}
use Rattle.device_state.proofs.handles.push_handles.Given as goal

abbrev pub invariant-loop-handle : goal.invariant-loop-handle
invariant-loop-handle l = record {
  text : l.out.items ≡ l.initial.out.items ++ handles_text 1 (l.handle - 1) l.handles;
  named : (k : ℕ) → 0 < k → k < l.handle → IsNamed (opened_at k l.handles);
}
