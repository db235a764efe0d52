use Rattle.std.proofs.Common.{◌≡◌, ◌-◌, List, ℕ, [], ◌∷◌, rules, true, refl, subst, ◌∙◌}
use Rattle.std.specs.Prelude.{None, Some}
use Rattle.padp_end.specs.Ends.{is_spent}
use Rattle.device_stream.specs.Hands.{waited_by}
use Rattle.port_line.specs.declared.port_fault.PortFault.TheVariants.{NoMemory}
use Rattle.port_link.specs.Courses.{Tells}
use Rattle.port_link.specs.Desks.{Read}
use Rattle.port_link.specs.Logs.{Silent, log_entries, said_entries, speech}
use Rattle.port_link.proofs.TellLaws.{tells-kept, tells-then, tells-unkept}
use Rattle.port_link.specs.Vigils.{vigil}
use Rattle.port_link.proofs.VigilCourseLaws.{behind-is, down-is, out-is, stops-behind, stops-refused, waits-perform}
use Rattle.port_link.proofs.vigil.Vigil.tick.Goals as goal

pub returns-then-is_err-clause-stops : goal.returns-then-is_err-clause-stops
returns-then-is_err-clause-stops g c =
    let old = c.args.self.now in
    let less : c.saturating_sub-self.result ≡ old.patience - 1 = search rules in
    let is = behind-is old.talk c.wait.new.self c.wait.new.self old.patience c.saturating_sub-self.result c.saturating_sub-self.result c.wait.ensures.talk
    refl less refl in
    stops-refused NoMemory (waited_by old.talk.hand).0 (Read []) (refl, is)
    (tells-unkept (g.P.Port.taken old.port) {l = log_entries old.log.entries} {m = log_entries c.tick.new.self.entries}
    (Silent ∷ said_entries (waited_by old.talk.hand).0) (search rules))

pub returns-then-is_err-clause-performs : goal.returns-then-is_err-clause-performs
returns-then-is_err-clause-performs g c =
    waits-perform g.F.Folder.contents g.F.Folder.moments g.F.Folder.paths g.F.Folder.faults c.args.self.now.talk c.wait.new.self c.wait.new.self
    c.wait.ensures.talk refl

pub returns-in-Err-clause-stops : goal.returns-in-Err-clause-stops
returns-in-Err-clause-stops g c =
    let old = c.args.self.now in
    let less : c.saturating_sub-self.result ≡ old.patience - 1 = search rules in
    let is = behind-is old.talk c.wait.new.self c.say.new.self.talk old.patience c.saturating_sub-self.result c.say.new.self.patience c.wait.ensures.talk
    c.say.ensures.talk less c.say.ensures.patience in
    let kept = tells-kept (g.P.Port.taken old.port) {l = log_entries old.log.entries} {m = log_entries c.tick.new.self.entries} (Silent ∷ []) refl (search rules) in
    let said = c.deref.ensures.0 ∙ c.wait.ensures.said in
    let tells = subst (λ (s : List ℕ). Tells (Some c.in-Err.fault) (g.P.Port.taken old.port) (g.P.Port.taken c.say.new.self.port) (log_entries old.log.entries)
    (log_entries c.say.new.self.log.entries) (Silent ∷ speech s)) said (tells-then {m = log_entries c.tick.new.self.entries} kept c.in-Err.ensures.tells) in
    rw c.port_end.ensures (stops-refused c.in-Err.fault (waited_by old.talk.hand).0 (Read []) (refl, is) tells)

pub returns-in-Err-clause-performs : goal.returns-in-Err-clause-performs
returns-in-Err-clause-performs g c =
    waits-perform g.F.Folder.contents g.F.Folder.moments g.F.Folder.paths g.F.Folder.faults c.args.self.now.talk c.wait.new.self c.say.new.self.talk
    c.wait.ensures.talk c.say.ensures.talk

pub returns-then-spent-clause-stops : goal.returns-then-spent-clause-stops
returns-then-spent-clause-stops g c =
    let old = c.args.self.now in
    let less : c.saturating_sub-self.result ≡ old.patience - 1 = search rules in
    let is = behind-is old.talk c.wait.new.self c.say.new.self.talk old.patience c.saturating_sub-self.result c.say.new.self.patience c.wait.ensures.talk
    c.say.ensures.talk less c.say.ensures.patience in
    let kept = tells-kept (g.P.Port.taken old.port) {l = log_entries old.log.entries} {m = log_entries c.tick.new.self.entries} (Silent ∷ []) refl (search rules) in
    let said = c.deref.ensures.0 ∙ c.wait.ensures.said in
    let tells = subst (λ (s : List ℕ). Tells (None) (g.P.Port.taken old.port) (g.P.Port.taken c.say.new.self.port) (log_entries old.log.entries)
    (log_entries c.say.new.self.log.entries) (Silent ∷ speech s)) said (tells-then {m = log_entries c.tick.new.self.entries} kept c.in_default.ensures.tells) in
    let spent : is_spent old.talk.hand.end ≡ true = search rules in
    stops-behind (waited_by old.talk.hand).0 (Read []) (refl, is) tells
    (down-is (vigil old.talk.hand old.patience) (vigil c.say.new.self.talk.hand c.say.new.self.patience) is c.requires.going spent) tt

pub returns-then-spent-clause-performs : goal.returns-then-spent-clause-performs
returns-then-spent-clause-performs g c =
    waits-perform g.F.Folder.contents g.F.Folder.moments g.F.Folder.paths g.F.Folder.faults c.args.self.now.talk c.wait.new.self c.say.new.self.talk
    c.wait.ensures.talk c.say.ensures.talk

pub returns-then-self-eq0-clause-stops : goal.returns-then-self-eq0-clause-stops
returns-then-self-eq0-clause-stops g c =
    let old = c.args.self.now in
    let less : c.saturating_sub-self.result ≡ old.patience - 1 = search rules in
    let is = behind-is old.talk c.wait.new.self c.say.new.self.talk old.patience c.saturating_sub-self.result c.say.new.self.patience c.wait.ensures.talk
    c.say.ensures.talk less c.say.ensures.patience in
    let kept = tells-kept (g.P.Port.taken old.port) {l = log_entries old.log.entries} {m = log_entries c.tick.new.self.entries} (Silent ∷ []) refl (search rules) in
    let said = c.deref.ensures.0 ∙ c.wait.ensures.said in
    let tells = subst (λ (s : List ℕ). Tells (None) (g.P.Port.taken old.port) (g.P.Port.taken c.say.new.self.port) (log_entries old.log.entries)
    (log_entries c.say.new.self.log.entries) (Silent ∷ speech s)) said (tells-then {m = log_entries c.tick.new.self.entries} kept c.in_default.ensures.tells) in
    stops-behind (waited_by old.talk.hand).0 (Read []) (refl, is) tells
    (out-is (vigil old.talk.hand old.patience) (vigil c.say.new.self.talk.hand c.say.new.self.patience) is c.requires.going c.if-self-eq0.true) tt

pub returns-then-self-eq0-clause-performs : goal.returns-then-self-eq0-clause-performs
returns-then-self-eq0-clause-performs g c =
    waits-perform g.F.Folder.contents g.F.Folder.moments g.F.Folder.paths g.F.Folder.faults c.args.self.now.talk c.wait.new.self c.say.new.self.talk
    c.wait.ensures.talk c.say.ensures.talk

pub returns-clause-performs : goal.returns-clause-performs
returns-clause-performs g c =
    waits-perform g.F.Folder.contents g.F.Folder.moments g.F.Folder.paths g.F.Folder.faults c.args.self.now.talk c.wait.new.self c.say.new.self.talk
    c.wait.ensures.talk c.say.ensures.talk
