use Rattle.front_laws.proofs.MeetingLaws.{among-news, behind-the_commit, at-the_end}
use Rattle.front_laws.proofs.meetings.a_stop_is_found.Goals as goal

pub returns-clause-news : goal.returns-clause-news
returns-clause-news c = among-news

pub returns-clause-commit : goal.returns-clause-commit
returns-clause-commit c = behind-the_commit

pub returns-clause-end : goal.returns-clause-end
returns-clause-end c = at-the_end
