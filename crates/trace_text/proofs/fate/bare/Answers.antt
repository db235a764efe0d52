use Rattle.std.proofs.Common.{arith}
use Rattle.trace_text.proofs.LogLaws.{kind_none}
use Rattle.trace_text.proofs.fate.bare.Goals as goal

pub invariant_of-result : goal.invariant_of-result
invariant_of-result c = record { short = omega arith; fits = kind_none c.args.kind }
