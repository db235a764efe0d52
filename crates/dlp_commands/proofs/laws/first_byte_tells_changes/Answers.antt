use Rattle.dlp_commands.proofs.StepLaws.{changes-request, changes-text, stepped, store_kept}
use Rattle.dlp_commands.proofs.laws.first_byte_tells_changes.Goals as goal

pub returns-clause-read : goal.returns-clause-read
returns-clause-read c = changes-request

pub returns-clause-written : goal.returns-clause-written
returns-clause-written c = changes-text

pub returns-clause-stays : goal.returns-clause-stays
returns-clause-stays c old new bytes reply quiet step = store_kept old new bytes reply quiet (stepped old new bytes reply step)
