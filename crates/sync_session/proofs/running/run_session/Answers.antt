-- A session leaves its link and the desktop's folder as its calls do.
use Rattle.sync_session.proofs.LeaveLaws.{runs_folder, runs_link}
use Rattle.sync_session.proofs.RunLaws.{runs_end}
use Rattle.sync_session.proofs.StopLaws.{runs_stop}
use Rattle.sync_session.proofs.running.run_session.Goals as goal

pub returns-clause-link : goal.returns-clause-link
returns-clause-link g c = runs_link g.met.L.Link.since_itself g.met.L.Link.since_more c.run.ensures.runs

pub returns-clause-folder : goal.returns-clause-folder
returns-clause-folder g c = runs_folder g.met.L.Link.since_itself g.met.L.Link.since_more c.run.ensures.runs

pub returns-clause-cause : goal.returns-clause-cause
returns-clause-cause g c = runs_stop c.run.ensures.runs

pub returns-clause-ends : goal.returns-clause-ends
returns-clause-ends g c = λ told ordered is rests.
    runs_end g.met.L.Link.since_itself g.met.L.Link.since_more ordered is rests c.run.ensures.runs
