use Rattle.line_laws.proofs.PromiseLaws.{has_ten_faults}
use Rattle.line_laws.proofs.laws.a_dead_line_has_ten_faults.Goals as goal

pub returns : goal.returns
returns c = has_ten_faults
