use Rattle.foreign_laws.proofs.PartTwins.{twin_news}
use Rattle.foreign_laws.proofs.request_laws.news_have_a_twin.Goals as goal

pub returns : goal.returns
returns c = twin_news
