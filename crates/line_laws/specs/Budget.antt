-- How many frames may stand between the earliest of the faults that hold up an end and its last
-- try.
use Rattle.std.specs.Prelude.{◌≡◌, ℕ, zero, suc, ◌+◌, ◌*◌, ◌-◌, ◌≤◌, ◌<◌, true, List, ◌∷◌, length}
use Rattle.trace_text.specs.Faults.{faulted, late_of, data_comes, newest, count}
use Rattle.trace_text.specs.Past.{PastFrame, said, acked, at, is_data_of}
use Rattle.trace_text.specs.declared.frame.End.{End}
use Rattle.line_laws.specs.Core.{Side, Waiting}
use Rattle.line_laws.specs.Progress.{Progress}

-- how many data frames of X are on the line
abbrev pub data_pending : End → List PastFrame → ℕ → ℕ
data_pending X past cx = count (data_comes X) past - count (data_comes X) (at cx past)

-- all frames so far and the data on the line
abbrev pub load : End → End → List PastFrame → ℕ → ℕ → ℕ
load X Y past cx cy = length past + data_pending X past cx + data_pending Y past cy

-- at most one repeat of X stands above the last tick, and at most two of its data frames up to it
-- are on the line
pub record RepeatBudget (X : End) (past : List PastFrame) (cx released : ℕ) : Type 0 where
  pub once : count (is_data_of X) past + length (said X (at released past))
      ≤ count (is_data_of X) (at released past) + length (said X past) + 1
  pub old : count (data_comes X) (at released past) ≤ count (data_comes X) (at cx past) + 2

-- each late frame of X that is held
abbrev pub HeldBudget : ℕ → End → End → List PastFrame → ℕ → ℕ → ℕ → Type 0
HeldBudget slack X Y past cx cy released =
    (n : ℕ) (frame : PastFrame) (older : List PastFrame) → cx < n → released < n → n ≤ length past
    → at n past ≡ frame ∷ older → late_of X frame ≡ true
    → load X Y past cx cy + 2 * (length (said X (at n past)) + length (acked X (at n past)))
    ≤ n + slack + 2 * (length (said X past) + length (said Y past))

-- X waits with its first try
pub record FirstTry (X Y : End) (past : List PastFrame) (cx cy : ℕ) : Type 0 where
  pub bound : load X Y past cx cy + 2 * length (acked X past)
      ≤ newest (is_data_of X) past + 8 + 2 * length (said Y past)

-- X waits and was held up by so many faults, each before the last tick: from frame f on. The slack
-- is for frames that the tick still sends.
pub record HeldUp (slack : ℕ) (X Y : End) (past : List PastFrame)
    (cx cy released faults : ℕ) : Type 0 where
  pub f : ℕ
  pub some : 0 < f
  pub inside : f ≤ length past
  pub faults_are : faults + count faulted (at (f - 1) past) ≤ count faulted (at released past)
  pub bound : load X Y past cx cy + slack + 2 * length (acked X past)
      ≤ f + 14 + 4 * faults + 2 * length (said Y past)

-- what is known of a waiting end by its tries
abbrev pub TryBudget : End → End → List PastFrame → ℕ → ℕ → ℕ → ℕ → Type 0
TryBudget X Y past cx cy released zero = ⊥
TryBudget X Y past cx cy released (suc zero) = FirstTry X Y past cx cy
TryBudget X Y past cx cy released (suc (suc faults)) = HeldUp 0 X Y past cx cy released (suc faults)

-- the time of an end
pub record EndTime (X Y : End) (past : List PastFrame) (cx cy released : ℕ) (side : Side)
    (tries : ℕ) : Type 0 where
  pub queued : RepeatBudget X past cx released
  pub held : HeldBudget 10 X Y past cx cy released
  pub progress : Waiting side → Progress X Y past cx cy released
  pub tried : Waiting side → TryBudget X Y past cx cy released tries
