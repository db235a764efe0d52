use Rattle.dlp_commands.proofs.StepLaws.{reply_read, stepped}
use Rattle.dlp_commands.proofs.laws.replies_are_read.Goals as goal

pub returns : goal.returns
returns c old new bytes reply sound bounded step =
    let found = reply_read old new bytes reply sound bounded (stepped old new bytes reply step) in
    (found.value, found.is, found.text, found.read)
