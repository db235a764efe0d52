use Rattle.std.proofs.Common.{refl, ◌∙◌, inl, inr}
use Rattle.slp_frames.proofs.ScanLaws.{continues_start}
use Rattle.port_link.specs.Courses.{scene}
use Rattle.port_link.specs.Desks.{Begins}
use Rattle.port_link.specs.Logs.{log_entries}
use Rattle.port_link.proofs.CourseLaws.{course-one}
use Rattle.port_link.proofs.TellLaws.{written-none}
use Rattle.port_link.proofs.talking.say.Goals as goal

pub returns-in-Ok-clause-says : goal.returns-in-Ok-clause-says
returns-in-Ok-clause-says g c =
    inl (
      scene (g.P.Port.given c.begin.new.self.port) (g.P.Port.taken c.begin.new.self.port) (g.P.Port.palm c.begin.new.self.port) c.args.reader.now.held c.begin.new.self.desk
          (log_entries c.begin.new.self.log.entries),
      course-one (Begins c.args.id c.args.message.now) (continues_start c.args.reader.now.held)
          (c.begin.ensures.given ∙ written-none (g.P.Port.given c.args.cable.now.port)) c.begin.ensures.desk c.in-Ok.ensures.tells
          (record { between = g.P.Port.palm c.args.cable.now.port; comes = refl; hears = c.begin.ensures.palm }),
      c.listen.ensures.listens,
    )

pub returns-in-Err-clause-says : goal.returns-in-Err-clause-says
returns-in-Err-clause-says g c =
    inr (
      c.in-Err.fault,
      refl,
      course-one (Begins c.args.id c.args.message.now) (continues_start c.args.reader.now.held)
          (c.begin.ensures.given ∙ written-none (g.P.Port.given c.args.cable.now.port)) c.begin.ensures.desk c.in-Err.ensures.tells
          (record { between = g.P.Port.palm c.args.cable.now.port; comes = refl; hears = c.begin.ensures.palm }),
    )
