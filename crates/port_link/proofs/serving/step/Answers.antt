use Rattle.std.proofs.Common.{[], ◌∙◌}
use Rattle.std.proofs.lemmas.Result.{IfErr-weaker, on_ok_weaker}
use Rattle.slp_frames.proofs.ScanLaws.{continues_start}
use Rattle.slp_frames.specs.PacketValues.{lent_value}
use Rattle.port_link.proofs.TellLaws.{written-none}
use Rattle.port_link.specs.Desks.{Came}
use Rattle.port_link.specs.Logs.{log_entries}
use Rattle.port_link.specs.VigilCourses.{scene}
use Rattle.port_link.specs.Vigils.{vigil}
use Rattle.port_link.proofs.VigilCourseLaws.{goes-from, goes-one, out-from, out-one}
use Rattle.port_link.proofs.serving.step.Goals as goal

pub returns-in-Some-clause-goes : goal.returns-in-Some-clause-goes
returns-in-Some-clause-goes g c =
    let held = c.args.reader.now.held in
    let next = rw c.in-Some.is at (c.next.follows.holds-at-none.continues held [] (continues_start held)) in
    let old = scene (g.P.Port.given c.args.waits.now.port) (g.P.Port.taken c.args.waits.now.port) held
    (vigil c.args.waits.now.talk.hand c.args.waits.now.patience) (log_entries c.args.waits.now.log.entries) in
    let new = scene (g.P.Port.given c.take.new.self.port) (g.P.Port.taken c.take.new.self.port) c.next.follows.lender-at-none.held
    (vigil c.take.new.self.talk.hand c.take.new.self.patience) (log_entries c.take.new.self.log.entries) in
    on_ok_weaker c.take.result
    (λ stepped. (
      Came (lent_value c.in-Some.packet),
      goes-one (Came (lent_value c.in-Some.packet)) {old = old} {new = new} next (c.take.ensures.given ∙ written-none (g.P.Port.given c.args.waits.now.port)) stepped,
    )) c.take.ensures.stepped

pub returns-in-Some-clause-stops : goal.returns-in-Some-clause-stops
returns-in-Some-clause-stops g c =
    let held = c.args.reader.now.held in
    let next = rw c.in-Some.is at (c.next.follows.holds-at-none.continues held [] (continues_start held)) in
    let old = scene (g.P.Port.given c.args.waits.now.port) (g.P.Port.taken c.args.waits.now.port) held
    (vigil c.args.waits.now.talk.hand c.args.waits.now.patience) (log_entries c.args.waits.now.log.entries) in
    let new = scene (g.P.Port.given c.take.new.self.port) (g.P.Port.taken c.take.new.self.port) c.next.follows.lender-at-none.held
    (vigil c.take.new.self.talk.hand c.take.new.self.patience) (log_entries c.take.new.self.log.entries) in
    IfErr-weaker c.take.result _ _
    (λ end stops. out-one (Came (lent_value c.in-Some.packet)) {old = old} {new = new} next (c.take.ensures.given ∙ written-none (g.P.Port.given c.args.waits.now.port)) stops)
    c.take.ensures.stops

pub returns-in-Some-clause-sudden : goal.returns-in-Some-clause-sudden
returns-in-Some-clause-sudden g c = IfErr-weaker c.take.result _ _ (λ end stops. stops.sudden) c.take.ensures.stops

pub returns-clause-goes : goal.returns-clause-goes
returns-clause-goes g c =
    let held = c.args.reader.now.held in
    let next = rw c.in_default.is at (c.next.follows.holds-at-none.continues held [] (continues_start held)) in
    on_ok_weaker c.read.result
    (λ goes. (
      goes.0,
      goes-from (scene (g.P.Port.given c.args.waits.now.port) (g.P.Port.taken c.args.waits.now.port) held
          (vigil c.args.waits.now.talk.hand c.args.waits.now.patience) (log_entries c.args.waits.now.log.entries)) c.next.follows.lender-at-none.held next goes.1,
    )) c.read.ensures.goes

pub returns-clause-stops : goal.returns-clause-stops
returns-clause-stops g c =
    let held = c.args.reader.now.held in
    let next = rw c.in_default.is at (c.next.follows.holds-at-none.continues held [] (continues_start held)) in
    IfErr-weaker c.read.result _ _
    (λ end stops. out-from (scene (g.P.Port.given c.args.waits.now.port) (g.P.Port.taken c.args.waits.now.port) held
    (vigil c.args.waits.now.talk.hand c.args.waits.now.patience) (log_entries c.args.waits.now.log.entries)) c.next.follows.lender-at-none.held next stops)
    c.read.ensures.stops
