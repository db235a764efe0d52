-- The request is what it was matched as.
use Rattle.std.proofs.Common.{refl}
use Rattle.dlp_commands.specs.DeviceSteps.{tried}
use Rattle.dlp_commands.proofs.reading.Reading.of_resources.Goals as goal

pub returns-in-ReadResourceByType-clause-asks : goal.returns-in-ReadResourceByType-clause-asks
unfolding tried
returns-in-ReadResourceByType-clause-asks c free device = rw c.in-ReadResourceByType.is refl

pub returns-in-ReadResourceByIndex-clause-asks : goal.returns-in-ReadResourceByIndex-clause-asks
unfolding tried
returns-in-ReadResourceByIndex-clause-asks c free device = rw c.in-ReadResourceByIndex.is refl
