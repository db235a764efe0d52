use Rattle.front_laws.proofs.RepeatLaws.{news-alone}
use Rattle.front_laws.proofs.repeat_laws.news_are_taken_up.Goals as goal

pub returns : goal.returns
returns c = news-alone
