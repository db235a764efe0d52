use Rattle.foreign_laws.proofs.SessionTwins.{twin_sends}
use Rattle.foreign_laws.proofs.session_laws.the_news_go_alike.Goals as goal

pub returns : goal.returns
returns c = twin_sends
