-- The handheld's number is another one.
use Rattle.std.proofs.Common.{◌∙◌}
use Rattle.session_plan.proofs.NumberLaws.{taken_others}
use Rattle.session_plan.proofs.numbers.is_taken.Goals as goal

pub returns-else-user-number : goal.returns-else-user-number
returns-else-user-number c = c.has_number.ensures ∙ taken_others c.args.marks.now c.args.user c.args.number c.if-user-number.false
