use Rattle.front_laws.proofs.WholeLaws.{meetings-hold}
use Rattle.front_laws.proofs.meetings.both_sides_hold_what_one_meeting_leaves.Goals as goal

pub returns : goal.returns
returns c = λ meeting name es later are new ids. meetings-hold meeting name es later new are.first are.last are.meetings.follow are.meetings.read
    are.meetings.stops are.meetings.got are.meetings.unknown ids.got ids.unknown
