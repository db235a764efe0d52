use Rattle.std.proofs.Common.{ℕ, List, [], ◌∷◌, subst}
use Rattle.port_link.specs.declared.awaited.Awaited.TheVariants.{Message}
use Rattle.port_link.specs.Calls.{Says}
use Rattle.port_link.specs.Courses.{scene}
use Rattle.port_link.specs.Desks.{Awaits, Begins}
use Rattle.port_link.specs.Logs.{log_entries}
use Rattle.port_link.proofs.CallLaws.{awaits, says-behind}
use Rattle.port_link.proofs.WholeLaws.{reply-whole, says-whole}
use Rattle.port_link.proofs.talking.converse.Goals as goal

pub returns-in-Ok-clause-converses : goal.returns-in-Ok-clause-converses
returns-in-Ok-clause-converses g c =
    let given = g.P.Port.given c.args.cable.now.port in
    let taken = g.P.Port.taken c.args.cable.now.port in
    let palm = g.P.Port.palm c.args.cable.now.port in
    let log = log_entries c.args.cable.now.log.entries in
    let held = c.args.reader.now.held in
    let old = scene given taken palm held c.args.cable.now.desk log in
    let mid = scene given taken palm held c.expect.new.self log in
    let after = c.say-answer.new.cable in
    let new = scene (g.P.Port.given after.port) (g.P.Port.taken after.port) (g.P.Port.palm after.port) c.say-answer.new.reader.held after.desk (log_entries after.log.entries) in
    let says = subst (λ (text : List ℕ). Says Message (Begins c.args.id text ∷ []) mid new c.say-answer.result) c.bytes.ensures.bytes c.say-answer.ensures.says in
    record {
      answer = c.say-answer.result;
      says = says-behind Message (Awaits c.args.id ∷ []) (Begins c.args.id c.args.request.now ∷ []) old mid new c.say-answer.result
          (awaits c.args.id old c.expect.new.self c.expect.ensures) says;
      cause_is = c.in-Ok.ensures;
      reply_is = λ none. reply-whole after.desk c.take_whole.new.message
          (says-whole (Begins c.args.id c.bytes.result.now ∷ []) mid new c.say-answer.result c.in-Ok.ensures c.say-answer.ensures.says) c.take_whole.ensures;
    }

pub returns-in-Err-clause-converses : goal.returns-in-Err-clause-converses
returns-in-Err-clause-converses g c =
    let given = g.P.Port.given c.args.cable.now.port in
    let taken = g.P.Port.taken c.args.cable.now.port in
    let palm = g.P.Port.palm c.args.cable.now.port in
    let log = log_entries c.args.cable.now.log.entries in
    let held = c.args.reader.now.held in
    let old = scene given taken palm held c.args.cable.now.desk log in
    let mid = scene given taken palm held c.expect.new.self log in
    let after = c.say-answer.new.cable in
    let new = scene (g.P.Port.given after.port) (g.P.Port.taken after.port) (g.P.Port.palm after.port) c.say-answer.new.reader.held after.desk (log_entries after.log.entries) in
    let says = subst (λ (text : List ℕ). Says Message (Begins c.args.id text ∷ []) mid new c.say-answer.result) c.bytes.ensures.bytes c.say-answer.ensures.says in
    record {
      answer = c.say-answer.result;
      says = says-behind Message (Awaits c.args.id ∷ []) (Begins c.args.id c.args.request.now ∷ []) old mid new c.say-answer.result
          (awaits c.args.id old c.expect.new.self c.expect.ensures) says;
      cause_is = c.in-Err.ensures;
      reply_is = λ none. cc;
    }
