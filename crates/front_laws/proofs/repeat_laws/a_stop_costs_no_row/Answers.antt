use Rattle.front_laws.proofs.RepeatLossLaws.{commit-loses, end-loses, news-loses}
use Rattle.front_laws.proofs.repeat_laws.a_stop_costs_no_row.Goals as goal

pub returns : goal.returns
returns c = record { news = news-loses; commit = commit-loses; end = end-loses }
