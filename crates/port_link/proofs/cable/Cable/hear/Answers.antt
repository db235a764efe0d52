use Rattle.std.proofs.Common.{List, ◌∷◌, [], ℕ, rules, refl, subst, ◌∙◌}
use Rattle.std.specs.Prelude.{Some}
use Rattle.slp_frames.specs.PacketValues.{lent_value}
use Rattle.port_link.specs.Courses.{Tells}
use Rattle.port_link.specs.Logs.{Heard, log_entries, speech}
use Rattle.port_laws.specs.Cables.{packets_of}
use Rattle.padp_end.specs.Ends.{end_takes}
use Rattle.port_laws.proofs.SaidLaws.{takes_scanned}
use Rattle.port_link.proofs.BehindLaws.{heard-said, told-unheard}
use Rattle.port_link.proofs.TellLaws.{tells-kept, tells-then}
use Rattle.port_link.proofs.cable.Cable.hear.Goals as goal

pub returns-in-Err-clause-tells : goal.returns-in-Err-clause-tells
returns-in-Err-clause-tells g c =
    let kept = tells-kept (g.P.Port.taken c.args.self.now.port) {l = log_entries c.args.self.now.log.entries} {m = log_entries c.hear.new.self.entries} (Heard (lent_value c.args.packet) ∷ []) refl (search rules) in
    let said = c.deref.ensures.0 ∙ c.hear-turn.ensures.said in
    subst (λ (s : List ℕ). Tells (Some c.in-Err.fault) (g.P.Port.taken c.args.self.now.port) (g.P.Port.taken c.say.new.self.port)
    (log_entries c.args.self.now.log.entries) (log_entries c.say.new.self.log.entries) (Heard (lent_value c.args.packet) ∷ speech s)) said
    (tells-then {m = log_entries c.hear.new.self.entries} kept c.in-Err.ensures.tells)

pub returns-then-is_err-clause-palm : goal.returns-then-is_err-clause-palm
returns-then-is_err-clause-palm g c =
    told-unheard (packets_of (end_takes c.args.self.now.desk.end (lent_value c.args.packet)).said) (g.P.Port.palm c.args.self.now.port)

pub returns-in-Ok-clause-palm : goal.returns-in-Ok-clause-palm
returns-in-Ok-clause-palm g c =
    heard-said (end_takes c.args.self.now.desk.end (lent_value c.args.packet)).said c.deref.result.now (g.P.Port.palm c.args.self.now.port)
    (g.P.Port.palm c.say.new.self.port) (takes_scanned c.args.self.now.desk.end (lent_value c.args.packet)) (c.deref.ensures.0 ∙ c.hear-turn.ensures.said)
    c.say.ensures.palm

pub returns-in-Err-clause-palm : goal.returns-in-Err-clause-palm
returns-in-Err-clause-palm g c =
    heard-said (end_takes c.args.self.now.desk.end (lent_value c.args.packet)).said c.deref.result.now (g.P.Port.palm c.args.self.now.port)
    (g.P.Port.palm c.say.new.self.port) (takes_scanned c.args.self.now.desk.end (lent_value c.args.packet)) (c.deref.ensures.0 ∙ c.hear-turn.ensures.said)
    c.say.ensures.palm
