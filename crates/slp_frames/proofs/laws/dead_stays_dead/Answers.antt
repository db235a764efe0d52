use Rattle.slp_frames.proofs.ScanLaws.{IsDead-append}
use Rattle.slp_frames.proofs.laws.dead_stays_dead.Goals as goal

pub returns : goal.returns
returns c = IsDead-append
