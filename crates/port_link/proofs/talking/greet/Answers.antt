use Rattle.std.proofs.Common.{refl, subst, inl}
use Rattle.std.specs.Prelude.{Err, Option}
use Rattle.port_link.specs.declared.port_cause.PortCause.{PortCause}
use Rattle.port_link.specs.Calls.{GoesOnFrom}
use Rattle.port_link.specs.Courses.{scene}
use Rattle.port_link.specs.Logs.{log_entries}
use Rattle.port_link.proofs.CallLaws.{awaits}
use Rattle.port_link.proofs.talking.greet.Goals as goal

pub returns-in-Ok-clause-greets : goal.returns-in-Ok-clause-greets
returns-in-Ok-clause-greets g c =
    let given = g.P.Port.given c.args.cable.now.port in
    let taken = g.P.Port.taken c.args.cable.now.port in
    let palm = g.P.Port.palm c.args.cable.now.port in
    let log = log_entries c.args.cable.now.log.entries in
    let held = c.args.reader.now.held in
    let old = scene given taken palm held c.args.cable.now.desk log in
    let heard = c.listen.new.cable in
    let between = scene (g.P.Port.given heard.port) (g.P.Port.taken heard.port) (g.P.Port.palm heard.port) c.listen.new.reader.held heard.desk (log_entries heard.log.entries) in
    let after = c.answer_wake.new.cable in
    let new = scene (g.P.Port.given after.port) (g.P.Port.taken after.port) (g.P.Port.palm after.port) c.answer_wake.new.reader.held after.desk (log_entries after.log.entries) in
    record {
      answer = c.listen.result;
      between = between;
      waits = inl (scene given taken palm held c.expect.new.self log, awaits 255 old c.expect.new.self c.expect.ensures, c.listen.ensures.listens);
      goes_on = subst (λ (cause : Option PortCause). GoesOnFrom cause between new c.answer_wake.result) c.in-Ok.ensures c.answer_wake.ensures.goes_on;
    }

pub returns-in-Err-clause-greets : goal.returns-in-Err-clause-greets
returns-in-Err-clause-greets g c =
    let given = g.P.Port.given c.args.cable.now.port in
    let taken = g.P.Port.taken c.args.cable.now.port in
    let palm = g.P.Port.palm c.args.cable.now.port in
    let log = log_entries c.args.cable.now.log.entries in
    let held = c.args.reader.now.held in
    let old = scene given taken palm held c.args.cable.now.desk log in
    let heard = c.listen.new.cable in
    let between = scene (g.P.Port.given heard.port) (g.P.Port.taken heard.port) (g.P.Port.palm heard.port) c.listen.new.reader.held heard.desk (log_entries heard.log.entries) in
    record {
      answer = c.listen.result;
      between = between;
      waits = inl (scene given taken palm held c.expect.new.self log, awaits 255 old c.expect.new.self c.expect.ensures, c.listen.ensures.listens);
      goes_on = subst (λ (cause : Option PortCause). GoesOnFrom cause between between (Err c.in-Err.cause)) c.in-Err.ensures (refl, refl);
    }
