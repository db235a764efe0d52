use Rattle.std.proofs.Common.{arith}
use Rattle.calendar_export.proofs.TaskForms.{task-content}
use Rattle.calendar_export.proofs.export.push_task.Goals as goal

pub returns-in-Ok-clause-text : goal.returns-in-Ok-clause-text
returns-in-Ok-clause-text c = rw c.in-Ok.ensures c.push_todo.ensures

pub returns-in-Err-clause-text : goal.returns-in-Err-clause-text
returns-in-Err-clause-text c = rw c.in-Err.ensures c.push_journal.ensures

pub returns-in-Ok-clause-form : goal.returns-in-Ok-clause-form
returns-in-Ok-clause-form c = task-content c.args.bytes.now (λ i. omega (arith, c.type_inv.bytes i))

pub returns-in-Err-clause-form : goal.returns-in-Err-clause-form
returns-in-Err-clause-form c = task-content c.args.bytes.now (λ i. omega (arith, c.type_inv.bytes i))
