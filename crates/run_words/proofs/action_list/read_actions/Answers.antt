use Rattle.std.proofs.Common.{◌∙◌, ap}
use Rattle.run_words.specs.Actions.{actions_in}
use Rattle.run_words.proofs.ActionLaws.{actions_in-actions_text, text_is_read}
use Rattle.run_words.proofs.action_list.read_actions.Goals as goal

pub returns-clause-written : goal.returns-clause-written
returns-clause-written c = λ e. rw c.in_ok-actions.ensures (text_is_read c.args.text.now e)

pub returns-clause-only : goal.returns-clause-only
returns-clause-only c = λ others are text. c.in_ok-actions.ensures ∙ ap actions_in text ∙ actions_in-actions_text others are
