use Rattle.std.proofs.Common.{inl, refl}
use Rattle.hotsync_looks.proofs.traced.frames_in.Goals as goal

pub returns-in-Err-BadLine-clause-refused : goal.returns-in-Err-BadLine-clause-refused
returns-in-Err-BadLine-clause-refused c =
    inl (c.in-Err-BadLine.line, (rw c.in-Err-BadLine.field-0-is at c.in-Err-BadLine.ensures.refused), refl)
