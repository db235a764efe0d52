use Rattle.conduit_rules.proofs.NewsLaws.{remove-found, count-found, without_first-missed, count-missed}
use Rattle.conduit_rules.proofs.news.take_partner.Goals as goal

pub returns-in-Some-clause-taken : goal.returns-in-Some-clause-taken
returns-in-Some-clause-taken c = count-found c.args.content.now c.args.free.now.items c.in-Some.place cc

pub returns-in-Some-clause-left : goal.returns-in-Some-clause-left
returns-in-Some-clause-left c = cc (remove-found c.args.content.now c.args.free.now.items c.in-Some.place cc)

pub returns-in-None-clause-taken : goal.returns-in-None-clause-taken
returns-in-None-clause-taken c = count-missed c.args.content.now c.args.free.now.items cc

pub returns-in-None-clause-left : goal.returns-in-None-clause-left
returns-in-None-clause-left c = without_first-missed c.args.content.now c.args.free.now.items cc
