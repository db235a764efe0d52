-- What a running line promises of its trace.
use Rattle.line_laws.proofs.Names.{HasProperTrace, HasTenFaults}
use Rattle.line_laws.proofs.FramingLaws.{trace-is-proper}
use Rattle.line_laws.proofs.TurnLaws.{tenth_try}

pub has_proper_trace : HasProperTrace
has_proper_trace script talk cursor frames past released h d rh rd th td line talking framed =
    trace-is-proper framed line.traced.faults line.core.there.cur_in line.core.back.cur_in talking.x_speech talking.y_speech

pub has_ten_faults : HasTenFaults
has_ten_faults X Y past released x y ty line waits bx by = tenth_try line.core line.x_time waits bx by
