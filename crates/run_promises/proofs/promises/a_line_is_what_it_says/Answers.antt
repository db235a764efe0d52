use Rattle.run_promises.proofs.HeadlineLaws.{line-is}
use Rattle.run_promises.proofs.promises.a_line_is_what_it_says.Goals as goal

pub returns : goal.returns
returns c = line-is
