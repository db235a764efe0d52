use Rattle.std.proofs.Common.{◌∙◌, sym}
use Rattle.run_words.proofs.ActionLaws.{is_actions-means}
use Rattle.run_words.proofs.action_list.is_actions.Goals as goal

pub returns-clause-meaning : goal.returns-clause-meaning
returns-clause-meaning c =
    let means = is_actions-means c.args.text.now in
    ((λ e. means.0 (sym c.are_actions.ensures ∙ e)), (λ h. c.are_actions.ensures ∙ means.1 h))
