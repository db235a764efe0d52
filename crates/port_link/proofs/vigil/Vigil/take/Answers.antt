use Rattle.std.proofs.Common.{List, ℕ, [], ◌∷◌, rules, refl, sym, subst, ◌∙◌}
use Rattle.std.specs.Prelude.{None, Some}
use Rattle.slp_frames.specs.PacketValues.{lent_value}
use Rattle.device_stream.specs.Talks.{Takes}
use Rattle.port_line.specs.declared.port_fault.PortFault.TheVariants.{NoMemory}
use Rattle.port_link.specs.Courses.{Tells}
use Rattle.port_link.specs.Desks.{Came}
use Rattle.port_link.specs.Logs.{Heard, log_entries, said_entries, speech}
use Rattle.port_link.proofs.TellLaws.{tells-kept, tells-then, tells-unkept}
use Rattle.port_link.proofs.VigilCourseLaws.{stops-over, stops-refused, stops-unserved}
use Rattle.port_link.proofs.vigil.Vigil.take.Goals as goal

pub returns-in-Err-clause-stops : goal.returns-in-Err-clause-stops
returns-in-Err-clause-stops g c =
    rw c.serving_end.ensures
    (stops-unserved c.in-Err.fault (Came (lent_value c.args.packet)) (g.P.Port.taken c.args.self.now.port) (log_entries c.args.self.now.log.entries)
    c.requires.going c.in-Err.ensures.refused)

pub returns-then-is_err-clause-stops : goal.returns-then-is_err-clause-stops
returns-then-is_err-clause-stops g c =
    let taken = c.in_default.ensures.takes in
    stops-refused NoMemory taken.said (Came (lent_value c.args.packet)) (taken.takes, refl)
    (tells-unkept (g.P.Port.taken c.args.self.now.port) {l = log_entries c.args.self.now.log.entries} {m = log_entries c.hear.new.self.entries}
    (Heard (lent_value c.args.packet) ∷ said_entries taken.said) (search rules))

pub returns-in-Err-say-clause-stops : goal.returns-in-Err-say-clause-stops
returns-in-Err-say-clause-stops g c =
    let taken = c.in_default.ensures.takes in
    let kept = tells-kept (g.P.Port.taken c.args.self.now.port) {l = log_entries c.args.self.now.log.entries} {m = log_entries c.hear.new.self.entries}
    (Heard (lent_value c.args.packet) ∷ []) refl (search rules) in
    let said = c.deref.ensures.0 ∙ taken.text_is in
    rw c.port_end.ensures
    (stops-refused c.in-Err-say.fault taken.said (Came (lent_value c.args.packet)) (
      subst (λ t. Takes c.args.self.now.talk.hand (lent_value c.args.packet) taken.said t.hand) (sym c.say.ensures.talk) taken.takes,
      c.say.ensures.patience,
    )
    (subst (λ (s : List ℕ). Tells (Some c.in-Err-say.fault) (g.P.Port.taken c.args.self.now.port) (g.P.Port.taken c.say.new.self.port)
    (log_entries c.args.self.now.log.entries) (log_entries c.say.new.self.log.entries) (Heard (lent_value c.args.packet) ∷ speech s)) said
    (tells-then {m = log_entries c.hear.new.self.entries} kept c.in-Err-say.ensures.tells)))

pub returns-in-Some-clause-stops : goal.returns-in-Some-clause-stops
returns-in-Some-clause-stops g c =
    let taken = c.in_default.ensures.takes in
    let kept = tells-kept (g.P.Port.taken c.args.self.now.port) {l = log_entries c.args.self.now.log.entries} {m = log_entries c.hear.new.self.entries}
    (Heard (lent_value c.args.packet) ∷ []) refl (search rules) in
    let said = c.deref.ensures.0 ∙ taken.text_is in
    rw c.talking_end.ensures
    (stops-over c.in-Some.over taken.said (Came (lent_value c.args.packet)) (
      subst (λ t. Takes c.args.self.now.talk.hand (lent_value c.args.packet) taken.said t.hand) (sym c.say.ensures.talk) taken.takes,
      c.say.ensures.patience,
    )
    (subst (λ (s : List ℕ). Tells None (g.P.Port.taken c.args.self.now.port) (g.P.Port.taken c.say.new.self.port)
    (log_entries c.args.self.now.log.entries) (log_entries c.say.new.self.log.entries) (Heard (lent_value c.args.packet) ∷ speech s)) said
    (tells-then {m = log_entries c.hear.new.self.entries} kept c.in_default-say.ensures.tells))
    (sym c.over.ensures ∙ c.in-Some.is))
