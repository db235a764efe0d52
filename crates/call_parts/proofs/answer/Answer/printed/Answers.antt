use Rattle.std.proofs.Common.{◌≡◌, ◌∙◌, ap}
use Rattle.call_parts.specs.DoneLines.{done_lines}
use Rattle.cmd_status.proofs.PrintedLaws.{printed_weaken}
use Rattle.call_parts.proofs.answer.Answer.printed.Goals as goal

pub returns-clause-printed : goal.returns-clause-printed
returns-clause-printed g c =
    printed_weaken (λ text. text ≡ done_lines c.args.self.report.databases.items) (λ text is. is ∙ ap done_lines c.deref.ensures.value)
    c.print_status-status.ensures.printed
