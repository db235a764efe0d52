use Rattle.std.proofs.Common.{[], refl, ◌∙◌}
use Rattle.slp_frames.proofs.ScanLaws.{continues_start}
use Rattle.slp_frames.specs.PacketValues.{lent_value}
use Rattle.port_link.specs.Courses.{scene}
use Rattle.port_link.specs.Desks.{Came}
use Rattle.port_link.specs.Logs.{log_entries}
use Rattle.port_link.proofs.CourseLaws.{happens-from, happens-one}
use Rattle.port_link.proofs.TellLaws.{written-none}
use Rattle.port_link.proofs.listening.step.Goals as goal

pub returns-in-Some-clause-happens : goal.returns-in-Some-clause-happens
returns-in-Some-clause-happens g c =
    let held = c.args.reader.now.held in
    let next = rw c.in-Some.is at (c.next.follows.holds-at-none.continues held [] (continues_start held)) in
    happens-one c.hear.result (Came (lent_value c.in-Some.packet))
    (scene (g.P.Port.given c.args.cable.now.port) (g.P.Port.taken c.args.cable.now.port) (g.P.Port.palm c.args.cable.now.port) held c.args.cable.now.desk (log_entries c.args.cable.now.log.entries))
    (scene (g.P.Port.given c.hear.new.self.port) (g.P.Port.taken c.hear.new.self.port) (g.P.Port.palm c.hear.new.self.port) c.next.follows.lender-at-none.held c.hear.new.self.desk
    (log_entries c.hear.new.self.log.entries)) tt next (c.hear.ensures.given ∙ written-none (g.P.Port.given c.args.cable.now.port)) c.hear.ensures.desk
    c.hear.ensures.turn c.hear.ensures.tells
    (record { between = g.P.Port.palm c.args.cable.now.port; comes = refl; hears = c.hear.ensures.palm })

pub returns-clause-happens : goal.returns-clause-happens
returns-clause-happens g c =
    let held = c.args.reader.now.held in
    let next = rw c.in_default.is at (c.next.follows.holds-at-none.continues held [] (continues_start held)) in
    happens-from c.read.result
    (scene (g.P.Port.given c.args.cable.now.port) (g.P.Port.taken c.args.cable.now.port) (g.P.Port.palm c.args.cable.now.port) held c.args.cable.now.desk (log_entries c.args.cable.now.log.entries))
    (scene (g.P.Port.given c.read.new.cable.port) (g.P.Port.taken c.read.new.cable.port) (g.P.Port.palm c.read.new.cable.port) c.read.new.reader.held c.read.new.cable.desk
    (log_entries c.read.new.cable.log.entries)) c.next.follows.lender-at-none.held next c.read.ensures.happens
