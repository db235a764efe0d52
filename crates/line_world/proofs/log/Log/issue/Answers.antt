use Rattle.line_world.proofs.Names.{[], ◌∷◌, ◌++◌, refl, ap, ◌∙◌, texts}
use Rattle.line_world.proofs.LogLaws.{same_log, texts-more}
use Rattle.line_world.proofs.log.Log.issue.Goals as goal

pub returns-clause-kept : goal.returns-clause-kept
returns-clause-kept c =
    let old = c.args.self.now in
    same_log
    (ap texts c.in_ok-push.ensures.items ∙ texts-more old.issued.items c.in_ok-text.text ∙ ap (λ t. texts old.issued.items ++ t.bytes ∷ [])
    c.in_ok-text.ensures) refl refl refl
