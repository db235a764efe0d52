-- A binary search finds the rule of a number.
use Rattle.std.proofs.Common.{rules}
use Rattle.std.proofs.lemmas.List.Sorted.{answers_always}
use Rattle.line_script.proofs.SearchLaws.{found-fate, missing-fate}
use Rattle.line_script.proofs.script.Script.fate.Goals as goal

pub returns-in-Ok : goal.returns-in-Ok
returns-in-Ok c =
    let by_key = c.in-Ok.ensures.position (λ rule. rule.number) (answers_always _ _ _ (λ f a r g called. search rules)) in
    rw (← c.self.view_is, c.index.ensures) (found-fate c.self.inside.rules.items c.args.number c.in-Ok.place c.index.result.now c.self.invariant.0
    (rw (← c.deref.ensures.value) c.in-Ok.ensures.bound) (λ d. rw (← c.deref.ensures.value) (by_key d)))

pub returns-in-Err : goal.returns-in-Err
returns-in-Err c =
    let by_key = c.in-Err.ensures.position (λ rule. rule.number) (answers_always _ _ _ (λ f a r g called. search rules)) in
    rw (← c.self.view_is, c.self.invariant.1)
    (missing-fate c.self.inside.rules.items c.args.number c.in-Err.field-0 c.self.invariant.0 (rw (← c.deref.ensures.value) by_key))
