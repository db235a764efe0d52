use Rattle.slp_frames.specs.PacketScan.{scan}
use Rattle.port_line.proofs.CradleLaws.{told_unheard}
use Rattle.port_line.proofs.palm_port.PalmPortPort.write_all.Goals as goal

pub returns-then-not-self-clause-palm : goal.returns-then-not-self-clause-palm
returns-then-not-self-clause-palm g c =
    told_unheard (scan c.args.bytes.now) c.args.self.now.cradle c.fail.new.self.cradle c.fail.ensures.cradle
