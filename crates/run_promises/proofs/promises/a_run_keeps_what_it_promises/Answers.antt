use Rattle.run_promises.proofs.HeadlineLaws.{headline}
use Rattle.run_promises.proofs.promises.a_run_keeps_what_it_promises.Goals as goal

pub returns : goal.returns
returns c = headline
