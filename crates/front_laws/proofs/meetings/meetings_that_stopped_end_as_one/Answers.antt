use Rattle.front_laws.proofs.MeetingLaws.{meetings-same}
use Rattle.front_laws.proofs.meetings.meetings_that_stopped_end_as_one.Goals as goal

pub returns : goal.returns
returns c = λ meeting name es later are new ids. meetings-same meeting name es later new are.follow are.read are.stops are.got are.unknown
    ids.got ids.unknown
