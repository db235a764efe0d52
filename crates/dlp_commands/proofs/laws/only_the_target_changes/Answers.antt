use Rattle.dlp_commands.proofs.StepLaws.{stepped, target_keeps}
use Rattle.dlp_commands.proofs.laws.only_the_target_changes.Goals as goal

pub returns : goal.returns
returns c old new bytes reply name step differ = target_keeps old new bytes reply name (stepped old new bytes reply step) differ
