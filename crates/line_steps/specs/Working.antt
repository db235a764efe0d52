-- How much is left to do on a running line.
use Rattle.std.specs.Prelude.{ℕ}
use Rattle.line_laws.specs.Measure.{measure}
use Rattle.line_steps.specs.declared.half.Half.{Half}
use Rattle.line_steps.specs.declared.half.Wire.{Wire}
use Rattle.line_steps.specs.Running.{past_now, side_of}

abbrev pub work_left : Wire → Half → Half → ℕ
work_left wire x y =
    measure x.end y.end (past_now wire.frames.items) x.taken y.taken (side_of x)
    (side_of y) x.sender.tries y.sender.tries
