use Rattle.dlp_commands.proofs.StepLaws.{reads_keep, stepped}
use Rattle.dlp_commands.proofs.laws.reading_keeps_databases.Goals as goal

pub returns : goal.returns
returns c old new bytes reply value read quiet step = reads_keep old new bytes reply value read quiet (stepped old new bytes reply step)
