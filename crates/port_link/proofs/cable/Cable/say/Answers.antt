use Rattle.slp_frames.specs.PacketScan.{scan}
use Rattle.port_link.proofs.BehindLaws.{told-unheard}
use Rattle.port_link.proofs.cable.Cable.say.Goals as goal

pub returns-then-is_err-clause-palm : goal.returns-then-is_err-clause-palm
returns-then-is_err-clause-palm g c = told-unheard (scan c.args.text.now) (g.P.Port.palm c.args.self.now.port)
