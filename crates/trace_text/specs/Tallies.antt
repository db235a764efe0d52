-- How the frames of a trace and a script are counted: bytes that land, and faults.
use Rattle.std.specs.Prelude.{ℕ, zero, suc, ◌+◌, ◌≤◌, ◌<◌, ◌&&◌, List, [], ◌∷◌, length, if◌then◌else◌}
use Rattle.trace_text.specs.declared.frame.End.{End}
use Rattle.trace_text.specs.Fates.{FateValue, is_fault, landing}
use Rattle.trace_text.specs.TraceLines.{FrameValue}
use Rattle.trace_text.specs.Past.{is_end}

-- how many frames of X came
abbrev pub count_came : End → List FrameValue → ℕ
count_came X [] = 0
count_came X (frame ∷ later) =
    (if is_end X frame.from && frame.came then 1 else 0) + count_came X later

-- how many bytes land of the frames of X
abbrev pub all_land : End → List FrameValue → ℕ
all_land X [] = 0
all_land X (frame ∷ later) =
    (if is_end X frame.from then landing frame.fate (length frame.bytes) else 0) + all_land X later

-- how many of so many frame numbers, from this one on, have a fault
abbrev pub faults_from : (ℕ → FateValue) → ℕ → ℕ → ℕ
faults_from script number zero = 0
faults_from script number (suc count) =
    (if is_fault (script number) then 1 else 0) + faults_from script (number + 1) count

-- A script is fair up to this frame: of at most 64 neighbouring numbers up to it at most nine have
-- a fault.
abbrev pub IsFairUpTo : ℕ → (ℕ → FateValue) → Type 0
IsFairUpTo last script =
    (number count : ℕ) → 0 < number → count ≤ 64 → number + count ≤ last + 1
    → faults_from script number count ≤ 9
