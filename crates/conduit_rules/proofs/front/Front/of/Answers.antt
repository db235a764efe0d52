use Rattle.std.proofs.Common.{◌∙◌, sym, ap, ℕ, Option}
use Rattle.conduit_rules.specs.Fronts.{lesser_of}
use Rattle.conduit_rules.proofs.FrontLaws.{front-is, front-none}
use Rattle.conduit_rules.proofs.front.Front.of.Goals as goal

pub returns-in-Some-clause-front : goal.returns-in-Some-clause-front
returns-in-Some-clause-front g c =
    front-is _ c.args.view.now.ahead c.args.rows.now.ahead c.args.base.now.ahead _ _ _
    c.head-seen.ensures.entry c.head-row.ensures.entry c.head-old.ensures.entry
    c.at_id.ensures c.at_id-in-Some.ensures c.at_id-in-Some-2.ensures
    (ap {A = Option ℕ × Option ℕ × Option ℕ} (λ p. lesser_of (lesser_of p.0 p.1) p.2)
    (λ k. (sym c.head_id.ensures k, sym c.head_id-2.ensures k, sym c.head_id-3.ensures k))
    ∙ ap (λ o. lesser_of o c.head_id-3.result) (sym c.lesser_id.ensures) ∙ sym c.lesser_id-least.ensures ∙ c.in-Some.is)

pub returns-in-None-clause-front : goal.returns-in-None-clause-front
returns-in-None-clause-front g c =
    front-none c.args.view.now.ahead c.args.rows.now.ahead c.args.base.now.ahead _ _ _
    c.head-seen.ensures.entry c.head-row.ensures.entry c.head-old.ensures.entry
    (ap {A = Option ℕ × Option ℕ × Option ℕ} (λ p. lesser_of (lesser_of p.0 p.1) p.2)
    (λ k. (sym c.head_id.ensures k, sym c.head_id-2.ensures k, sym c.head_id-3.ensures k))
    ∙ ap (λ o. lesser_of o c.head_id-3.result) (sym c.lesser_id.ensures) ∙ sym c.lesser_id-least.ensures ∙ c.in-None.is)
