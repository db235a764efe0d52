-- What a session leaves of its link and of the desktop's folder.
use Rattle.category_mirror.proofs.EndLaws.{ran_ends}
use Rattle.category_mirror.proofs.LeaveLaws.{ran_folder, ran_link}
use Rattle.category_mirror.proofs.session.file_session.Goals as goal

pub returns-clause-link : goal.returns-clause-link
returns-clause-link g c = ran_link g.met.L.Link.since_itself g.met.L.Link.since_more c.run.ensures

pub returns-clause-folder : goal.returns-clause-folder
returns-clause-folder g c = ran_folder g.met.L.Link.since_itself g.met.L.Link.since_more c.run.ensures

pub returns-clause-ends : goal.returns-clause-ends
returns-clause-ends g c = λ told desk_is is rests. ran_ends g.met.L.Link.since_itself g.met.L.Link.since_more c.args.desk told desk_is is rests c.run.ensures
