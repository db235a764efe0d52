use Rattle.dlp_commands.proofs.StepLaws.{bounded_stays, stepped}
use Rattle.dlp_commands.proofs.laws.bounds_stay.Goals as goal

pub returns : goal.returns
returns c old new bytes reply are sound bounded step = bounded_stays old new bytes reply are sound bounded (stepped old new bytes reply step)
