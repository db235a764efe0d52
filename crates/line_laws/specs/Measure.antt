-- How much is left to do before a message of one end was carried over: each step of a running line
-- makes it less.
use Rattle.std.specs.Prelude.{ℕ, ◌+◌, ◌*◌, ◌-◌, nat_lt, if◌then◌else◌, List, length}
use Rattle.padp_link.specs.Pieces.{piece_count}
use Rattle.trace_text.specs.Past.{PastFrame}
use Rattle.trace_text.specs.declared.frame.End.{End}
use Rattle.line_laws.specs.Budget.{data_pending}
use Rattle.line_laws.specs.Core.{Side}
use Rattle.line_laws.specs.Talking.{left}

-- how many tries an end has left for the piece that waits
abbrev pub rest_tries : Side → ℕ → ℕ
rest_tries side tries =
    if nat_lt side.acknowledged (piece_count (length side.message)) then 10 - tries else 0

-- pieces to begin, tries, data on the line, and frames that weren't taken off it
abbrev pub work : End → End → List PastFrame → ℕ → ℕ → ℕ → ℕ → ℕ
work X Y past cx cy pieces tries =
    60 * pieces + 6 * tries + 3 * (data_pending X past cx + data_pending Y past cy)
    + (length past - cx) + (length past - cy)

-- of a running line
abbrev pub measure : End → End → List PastFrame → ℕ → ℕ → Side → Side → ℕ → ℕ → ℕ
measure X Y past cx cy x y tx ty =
    work X Y past cx cy (left x + left y) (rest_tries x tx + rest_tries y ty)
