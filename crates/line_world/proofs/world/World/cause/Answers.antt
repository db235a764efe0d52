use Rattle.line_world.proofs.Names.{◌≡◌, length, None, Some, subst, fate_by, IsFairUpTo, BearsOut, EndsBy, IsCause, Stop, down_end, stop_cause}
use Rattle.line_world.proofs.CauseLaws.{bears-out, never-down, stop-caused}
use Rattle.line_world.proofs.world.World.cause.Goals as goal

pub returns-clause-caused : goal.returns-clause-caused
returns-clause-caused g c = subst (λ v. IsCause v.fault v.cause) c.self.view_is c.self.invariant.caused

pub returns-clause-borne_out : goal.returns-clause-borne_out
returns-clause-borne_out g c =
    let w = c.self.inside in
    subst (λ v. BearsOut v.cause v.frames) c.self.view_is (bears-out w.cause c.self.invariant.recorded c.self.invariant.told)

pub returns-clause-fair : goal.returns-clause-fair
returns-clause-fair g c =
    let w = c.self.inside in
    subst (λ v. IsFairUpTo (length v.frames) (fate_by v.script) → down_end v.cause ≡ None) c.self.view_is
    (never-down w.cause c.self.invariant.recorded c.self.invariant.told)

pub returns-clause-stops : goal.returns-clause-stops
returns-clause-stops g c =
    let w = c.self.inside in
    subst (λ v. (why : Stop) → EndsBy why v.frames → v.cause ≡ Some (stop_cause why (length v.frames))) c.self.view_is
    (stop-caused w.cause c.self.invariant.recorded c.self.invariant.told)
