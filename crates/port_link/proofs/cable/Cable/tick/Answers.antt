use Rattle.std.proofs.Common.{List, ◌∷◌, [], ℕ, rules, refl, subst, ◌∙◌}
use Rattle.std.specs.Prelude.{Some}
use Rattle.port_link.specs.Courses.{Tells}
use Rattle.port_link.specs.Logs.{Silent, log_entries, speech}
use Rattle.port_laws.specs.Cables.{packets_of}
use Rattle.port_link.specs.Desks.{silence}
use Rattle.port_link.proofs.BehindLaws.{heard-said, silence_scanned, told-unheard}
use Rattle.port_link.proofs.TellLaws.{tells-kept, tells-then}
use Rattle.port_link.proofs.cable.Cable.tick.Goals as goal

pub returns-in-Err-clause-tells : goal.returns-in-Err-clause-tells
returns-in-Err-clause-tells g c =
    let kept = tells-kept (g.P.Port.taken c.args.self.now.port) {l = log_entries c.args.self.now.log.entries} {m = log_entries c.tick.new.self.entries} (Silent ∷ []) refl (search rules) in
    let said = c.deref.ensures.0 ∙ c.tick-turn.ensures.said in
    subst (λ (s : List ℕ). Tells (Some c.in-Err.fault) (g.P.Port.taken c.args.self.now.port) (g.P.Port.taken c.say.new.self.port)
    (log_entries c.args.self.now.log.entries) (log_entries c.say.new.self.log.entries) (Silent ∷ speech s)) said
    (tells-then {m = log_entries c.tick.new.self.entries} kept c.in-Err.ensures.tells)

pub returns-then-is_err-clause-palm : goal.returns-then-is_err-clause-palm
returns-then-is_err-clause-palm g c = told-unheard (packets_of (silence c.args.self.now.desk).said) (g.P.Port.palm c.args.self.now.port)

pub returns-in-Ok-clause-palm : goal.returns-in-Ok-clause-palm
returns-in-Ok-clause-palm g c =
    heard-said (silence c.args.self.now.desk).said c.deref.result.now (g.P.Port.palm c.args.self.now.port) (g.P.Port.palm c.say.new.self.port)
    (silence_scanned c.args.self.now.desk) (c.deref.ensures.0 ∙ c.tick-turn.ensures.said) c.say.ensures.palm

pub returns-in-Err-clause-palm : goal.returns-in-Err-clause-palm
returns-in-Err-clause-palm g c =
    heard-said (silence c.args.self.now.desk).said c.deref.result.now (g.P.Port.palm c.args.self.now.port) (g.P.Port.palm c.say.new.self.port)
    (silence_scanned c.args.self.now.desk) (c.deref.ensures.0 ∙ c.tick-turn.ensures.said) c.say.ensures.palm
