use Rattle.front_laws.proofs.ManyLaws.{all-run_again}
use Rattle.front_laws.proofs.laws.stopped_sessions_are_run_again.Goals as goal

pub returns : goal.returns
returns c = λ meeting es later name are new ids. all-run_again meeting es later new name are.sound are.again are.active are.fresh are.got ids.got
    ids.unknown
