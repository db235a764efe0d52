use Rattle.std.proofs.Common.{refl, ap, subst, sym, ◌∙◌}
use Rattle.device_stream.proofs.CourseLaws.{any-itself}
use Rattle.device_stream.specs.Courses.{PerformsAny}
use Rattle.port_link.specs.Vigils.{vigil}
use Rattle.port_link.proofs.VigilCourseLaws.{out-said, out-unsaid}
use Rattle.port_link.proofs.serving.wake.Goals as goal

pub returns-in-Ok-clause-goes : goal.returns-in-Ok-clause-goes
returns-in-Ok-clause-goes g c =
    let said = c.say.ensures in
    out-said said.given refl (ap (λ t. vigil t.hand c.say.new.self.patience) said.talk ∙ ap (λ n. vigil c.args.waits.now.talk.hand n) said.patience)
    c.in-Ok.ensures.tells c.listen.ensures.goes

pub returns-in-Err-clause-goes : goal.returns-in-Err-clause-goes
returns-in-Err-clause-goes g c =
    let said = c.say.ensures in
    rw c.port_end.ensures
    (out-unsaid c.in-Err.fault said.given refl (ap (λ t. vigil t.hand c.say.new.self.patience) said.talk ∙ ap (λ n. vigil c.args.waits.now.talk.hand n) said.patience)
    c.in-Err.ensures.tells)

pub returns-in-Err-clause-performs : goal.returns-in-Err-clause-performs
returns-in-Err-clause-performs g c =
    subst (λ t. PerformsAny g.F.Folder.contents g.F.Folder.moments g.F.Folder.paths g.F.Folder.faults c.args.waits.now.talk t) (sym c.say.ensures.talk)
    (any-itself g.F.Folder.contents g.F.Folder.moments g.F.Folder.paths g.F.Folder.faults c.args.waits.now.talk)
