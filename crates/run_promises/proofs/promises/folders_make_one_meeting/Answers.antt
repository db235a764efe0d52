use Rattle.run_promises.proofs.OneLaws.{one-meeting}
use Rattle.run_promises.proofs.promises.folders_make_one_meeting.Goals as goal

pub returns : goal.returns
returns c = one-meeting
