-- What was sent goes before the past.
use Rattle.std.proofs.Common.{sym, subst}
use Rattle.std.specs.Bool.{MatchBool}
use Rattle.trace_check.specs.Talking.{IsTalking, TalksSo}
use Rattle.trace_check.proofs.talking.Talking.pass.Goals as goal

pub returns-in-Some : goal.returns-in-Some
returns-in-Some c past is so =
    subst (λ p. MatchBool c.take.result (IsTalking p c.take.new.self × TalksSo p) (TalksSo p → ⊥)) (sym (c.in-Some.ensures past)) (c.take.ensures past is so)

pub returns-in-None : goal.returns-in-None
returns-in-None c past is so = subst (λ p. IsTalking p c.args.self.now × TalksSo p) (sym (c.in-None.ensures past)) (is, so)
