use Rattle.std.proofs.Common.{◌≡◌, ◌++◌, ℕ, List, Option, length, ◌-◌, ◌<◌}
use Rattle.palm_device.specs.Handles.{opened_at}
use Rattle.palm_device.specs.declared.opened.Opened.{Opened}
use Rattle.device_state.specs.Opened.{IsNamed, handles_text}
use Rattle.device_state.proofs.handles.next_handles.Given as goal

abbrev pub invariant-loop-handle : goal.invariant-loop-handle
invariant-loop-handle l = record {
  text : l.bytes ≡ handles_text 1 (l.handle - 1) l.handles ++ l.rest;
  eight : length l.handles ≡ 8;
  named : (k : ℕ) → 0 < k → k < l.handle → IsNamed (opened_at k l.handles);
  ends : (handles : List (Option Opened)) (rest : List ℕ) → l.bytes ≡ handles_text 1 8 handles ++ rest
      → l.rest ≡ handles_text l.handle (9 - l.handle) handles ++ rest;
}
