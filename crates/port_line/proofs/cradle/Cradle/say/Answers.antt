use Rattle.slp_frames.specs.PacketScan.{scan}
use Rattle.port_line.proofs.CradleLaws.{put_toward, says-from}
use Rattle.port_line.proofs.cradle.Cradle.say.Goals as goal

pub returns-clause-palm : goal.returns-clause-palm
returns-clause-palm g c =
    says-from (scan c.args.bytes.now) c.self.view_is (put_toward {hand = c.self.inside.handheld.hand} {coming = c.self.inside.coming} c.put.ensures.front)
