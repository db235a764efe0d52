use Rattle.front_laws.proofs.MeetingLaws.{reading-shows}
use Rattle.front_laws.proofs.meetings.a_reading_shows.Goals as goal

pub returns : goal.returns
returns c = reading-shows
