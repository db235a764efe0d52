use Rattle.std.proofs.Common.{◌≡◌, ◌≤◌, ◌<◌, ℕ, take, get_or}
use Rattle.std.specs.Prelude.{false}
use Rattle.palm_device.specs.FreshIds.{is_among}
use Rattle.desktop_session.proofs.lists.repeats.Given as goal

abbrev pub invariant-loop-place : goal.invariant-loop-place
invariant-loop-place l = (k : ℕ) → l.before ≤ k → k < l.place → is_among (get_or l.ids k 0) (take k l.ids) ≡ false
