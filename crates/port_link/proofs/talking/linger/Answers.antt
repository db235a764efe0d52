use Rattle.std.proofs.Common.{◌≡◌, ℕ, ◌+◌, [], ◌∷◌, ◌++◌, true, rules, sym, ap, ◌∙◌, arith}
use Rattle.std.proofs.lemmas.List.{length-append}
use Rattle.port_link.specs.Courses.{scene}
use Rattle.port_link.specs.Logs.{log_entries}
use Rattle.port_link.proofs.CallLaws.{bears-then}
use Rattle.port_link.proofs.talking.linger.Goals as goal

pub loop-tick-preserved : goal.loop-tick-preserved
loop-tick-preserved g c =
    let before = c.loop-tick.invariant in
    let at = c.loop-tick.cable in
    let after = c.listen.new.cable in
    let first = scene (g.P.Port.given c.args.cable.now.port) (g.P.Port.taken c.args.cable.now.port) (g.P.Port.palm c.args.cable.now.port) c.args.reader.now.held c.linger.new.self
    (log_entries c.args.cable.now.log.entries) in
    let old = scene (g.P.Port.given at.port) (g.P.Port.taken at.port) (g.P.Port.palm at.port) c.loop-tick.reader.held at.desk (log_entries at.log.entries) in
    let new = scene (g.P.Port.given after.port) (g.P.Port.taken after.port) (g.P.Port.palm after.port) c.listen.new.reader.held after.desk (log_entries after.log.entries) in
    let more : c.bears.result ≡ true = search rules in
    record {
      bears = (
        before.bears.0 ++ new ∷ [],
        bears-then before.bears.0 first old new c.listen.result before.bears.1 (sym c.bears.ensures ∙ more) c.listen.ensures.listens,
        length-append before.bears.0 (new ∷ []) ∙ ap (λ (n : ℕ). n + 1) before.bears.2,
      );
      paths = c.listen.ensures.paths ∙ before.paths;
      later = omega (arith, before.later, c.listen.ensures.cause.later);
    }
