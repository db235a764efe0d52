use Rattle.database_merge.proofs.MeetingLaws.{full-as, leaves-as, same_skip}
use Rattle.database_merge.proofs.laws.a_session_leaves_the_same.Goals as goal

pub returns-clause-left : goal.returns-clause-left
returns-clause-left c = λ meeting task action given before rows is. leaves-as meeting task action given before rows is.asked is.slow

pub returns-clause-skipped : goal.returns-clause-skipped
returns-clause-skipped c = same_skip

pub returns-clause-full : goal.returns-clause-full
returns-clause-full c = λ meeting task action is are. full-as meeting task action is.asked is.slow are.ids are.bounded
