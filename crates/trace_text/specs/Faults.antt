-- The faults, the late frames, the repeats and what is held among the frames so far.
use Rattle.std.specs.Prelude.{◌≡◌, ℕ, ◌+◌, ◌≤◌, ◌<◌, max, Bool, true, false, ◌&&◌, List, [], ◌∷◌, length, if◌then◌else◌}
use Rattle.trace_text.specs.declared.frame.End.{End}
use Rattle.trace_text.specs.declared.frame.End.TheVariants.{Handheld, Desktop}
use Rattle.trace_text.specs.Past.{FrameCourse, Came, Gone, Late, PastFrame, is_end, is_data_of, is_repeat, at}

-- it comes in the end
abbrev pub comes : FrameCourse → Bool
comes Came = true
comes Gone = false
comes Late = true

-- the line did it harm
abbrev pub is_faulty : FrameCourse → Bool
is_faulty Came = false
is_faulty Gone = true
is_faulty Late = true

abbrev pub is_late : FrameCourse → Bool
is_late Came = false
is_late Gone = false
is_late Late = true

abbrev pub faulted : PastFrame → Bool
faulted frame = is_faulty frame.course

abbrev pub late_of : End → PastFrame → Bool
late_of X frame = is_end X frame.from && is_late frame.course

abbrev pub data_comes : End → PastFrame → Bool
data_comes X frame = is_data_of X frame && comes frame.course

-- the number of the newest frame that passes, or 0
abbrev pub newest : (PastFrame → Bool) → List PastFrame → ℕ
newest p [] = 0
newest p (frame ∷ past) = if p frame then length past + 1 else newest p past

-- how many pass
abbrev pub count : (PastFrame → Bool) → List PastFrame → ℕ
count p [] = 0
count p (frame ∷ past) = if p frame then count p past + 1 else count p past

-- the number of the newest repeat of X, or 0
abbrev pub last_repeat : End → List PastFrame → ℕ
last_repeat X [] = 0
last_repeat X (frame ∷ past) =
    if is_repeat X frame past then length past + 1 else last_repeat X past

-- of either end
abbrev pub newest_repeat : List PastFrame → ℕ
newest_repeat past = max (last_repeat Handheld past) (last_repeat Desktop past)

-- frame n of X is held behind this past: it or an earlier frame of X is late, and no repeat stands
-- behind that one
pub record IsHeldIn (X : End) (n : ℕ) (past : List PastFrame) : Type 0 where
  pub late : ℕ
  pub frame : PastFrame
  pub older : List PastFrame
  pub some : 0 < late
  pub before : late ≤ n
  pub here : at late past ≡ frame ∷ older
  pub is_late_one : late_of X frame ≡ true
  pub no_repeat : newest_repeat past ≤ late

-- Each repeat has its fault: where w is the same end's repeat before it, a frame from w - 1 on is
-- faulted, and else any frame.
abbrev pub RepeatsHaveFaults : List PastFrame → Type 0
RepeatsHaveFaults [] = Unit {0}
RepeatsHaveFaults (frame ∷ past) =
    ((X : End) → is_repeat X frame past ≡ true
    → (0 < newest faulted past) × (last_repeat X past ≤ newest faulted past + 1))
    × RepeatsHaveFaults past
