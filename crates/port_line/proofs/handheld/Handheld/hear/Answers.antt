use Rattle.std.proofs.Common.{refl, ap}
use Rattle.slp_frames.specs.PacketScan.{scan}
use Rattle.slp_frames.specs.PacketValues.{lent_value}
use Rattle.port_line.proofs.CradleLaws.{hears-from, hears-nothing, hears-stopped, hears-taken}
use Rattle.port_line.proofs.handheld.Handheld.hear.Goals as goal

pub returns-then-self : goal.returns-then-self
returns-then-self g c = hears-nothing (lent_value c.args.packet) c.clear.new.self.items refl c.clear.ensures

pub returns-in-Err : goal.returns-in-Err
returns-in-Err g c =
    hears-from (lent_value c.args.packet) (scan c.clear-in-Err.new.self.items) c.take.new.self.hand (ap (λ h. h.hand) c.self.view_is)
    (hears-stopped (lent_value c.args.packet) c.clear-in-Err.new.self.items c.in-Err.ensures.refused c.clear-in-Err.ensures)

pub returns-in-Ok : goal.returns-in-Ok
returns-in-Ok g c =
    hears-from (lent_value c.args.packet) (scan c.take.new.out.items) c.take.new.self.hand (ap (λ h. h.hand) c.self.view_is)
    (hears-taken (lent_value c.args.packet) c.take.new.out.items c.in-Ok.ensures.takes (c.in-Ok.ensures.short c.self.invariant.1))
