use Rattle.std.proofs.Common.{ap}
use Rattle.slp_frames.specs.PacketScan.{scan}
use Rattle.port_line.proofs.CradleLaws.{ticks-from, ticks-waited}
use Rattle.port_line.proofs.handheld.Handheld.tick.Goals as goal

pub returns : goal.returns
returns g c =
    ticks-from (scan c.wait.new.out.items) c.wait.new.self.hand (ap (λ h. h.hand) c.self.view_is)
    (ticks-waited c.wait.new.out.items (ap (λ t. t.hand) c.wait.ensures.talk) c.wait.ensures.said)
