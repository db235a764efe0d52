use Rattle.front_laws.proofs.SkipLaws.{kept-stays}
use Rattle.front_laws.proofs.WholeLaws.{active-again}
use Rattle.front_laws.proofs.meetings.a_database_is_not_skipped_later.Goals as goal

pub returns-clause-likes : goal.returns-clause-likes
returns-clause-likes c = kept-stays

pub returns-clause-whole : goal.returns-clause-whole
returns-clause-whole c = active-again
