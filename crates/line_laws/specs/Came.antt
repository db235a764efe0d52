-- Which frames were taken off the line, by a cursor for each end: all its frames up to that number.
use Rattle.std.specs.Prelude.{ℕ, ◌+◌, Bool, false, ◌&&◌, nat_le, List, [], ◌∷◌, length, if◌then◌else◌}
use Rattle.trace_text.specs.Faults.{comes, data_comes}
use Rattle.trace_text.specs.Past.{PastFrame, at}
use Rattle.trace_text.specs.Proper.{AcksAreFor, NumberedFrame}
use Rattle.trace_text.specs.declared.frame.End.{End}

-- the newest frame of this past, of number n, comes and stands at or before its end's cursor
abbrev pub is_taken : (End → ℕ) → ℕ → List PastFrame → Bool
is_taken cursor n [] = false
is_taken cursor n (frame ∷ older) = comes frame.course && nat_le n (cursor frame.from)

-- frame n came
abbrev pub came_by : (End → ℕ) → List PastFrame → ℕ → Bool
came_by cursor past n = is_taken cursor n (at n past)

-- the data frames of X that come, the newest first
abbrev pub data_taken : End → List PastFrame → List NumberedFrame
data_taken X [] = []
data_taken X (frame ∷ past) =
    if data_comes X frame
    then record { number = length past + 1; key = frame.key } ∷ data_taken X past
    else data_taken X past

-- what the acknowledgements by Y are for, where this was taken of X
abbrev pub AcksMatch : End → End → (End → ℕ) → List PastFrame → Type 0
AcksMatch X Y cursor past =
    AcksAreFor Y (came_by cursor past) past (data_taken X (at (cursor X) past))
