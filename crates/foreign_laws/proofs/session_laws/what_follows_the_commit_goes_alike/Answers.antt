use Rattle.foreign_laws.proofs.SessionTwins.{twin_finishes}
use Rattle.foreign_laws.proofs.session_laws.what_follows_the_commit_goes_alike.Goals as goal

pub returns : goal.returns
returns c = twin_finishes
