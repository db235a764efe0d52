use Rattle.run_promises.proofs.HeadlineLaws.{stays-up}
use Rattle.run_promises.proofs.promises.where_a_line_is_fair_it_does_not_go_down.Goals as goal

pub returns : goal.returns
returns c = stays-up
