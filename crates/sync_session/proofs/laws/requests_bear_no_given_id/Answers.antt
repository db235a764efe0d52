use Rattle.sync_session.proofs.IdsLaws.{text-session}
use Rattle.sync_session.proofs.laws.requests_bear_no_given_id.Goals as goal

pub returns : goal.returns
returns c = text-session
