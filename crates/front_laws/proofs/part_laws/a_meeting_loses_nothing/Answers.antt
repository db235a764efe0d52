use Rattle.front_laws.proofs.EventLaws.{kept-on, there-still}
use Rattle.front_laws.proofs.part_laws.a_meeting_loses_nothing.Goals as goal

pub returns : goal.returns
returns c = record { kept = kept-on; there = there-still }
