use Rattle.std.proofs.Common.{arith}
use Rattle.calendar_export.proofs.component.Origin.new.Goals as goal

pub returns-clause-form : goal.returns-clause-form
returns-clause-form c = record { id = omega arith; label = λ i. omega (arith, c.type_inv.label i) }
