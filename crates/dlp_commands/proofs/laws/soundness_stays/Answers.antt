use Rattle.dlp_commands.proofs.StepLaws.{sound_stays, stepped}
use Rattle.dlp_commands.proofs.laws.soundness_stays.Goals as goal

pub returns : goal.returns
returns c old new bytes reply sound step = sound_stays old new bytes reply sound (stepped old new bytes reply step)
