use Rattle.std.proofs.Common.{◌∙◌}
use Rattle.padp_end.specs.Ends.{end_begins}
use Rattle.port_laws.proofs.SaidLaws.{begins_scanned}
use Rattle.port_link.proofs.BehindLaws.{heard-said}
use Rattle.port_link.proofs.cable.Cable.begin.Goals as goal

pub returns-clause-palm : goal.returns-clause-palm
returns-clause-palm g c =
    heard-said (end_begins c.args.self.now.desk.end c.args.id c.args.message.now).0 c.deref.result.now (g.P.Port.palm c.args.self.now.port)
    (g.P.Port.palm c.say.new.self.port) (begins_scanned c.args.self.now.desk.end c.args.id c.args.message.now) (c.deref.ensures.0 ∙ c.begin.ensures.said)
    c.say.ensures.palm
