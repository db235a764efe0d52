-- The request is what it was matched as.
use Rattle.std.proofs.Common.{refl}
use Rattle.dlp_commands.specs.DeviceSteps.{tried}
use Rattle.dlp_commands.proofs.reading.Reading.of.Goals as goal

pub returns-in-ReadAppBlock-clause-asks : goal.returns-in-ReadAppBlock-clause-asks
unfolding tried
returns-in-ReadAppBlock-clause-asks c free device = rw c.in-ReadAppBlock.is refl

pub returns-in-ReadSortBlock-clause-asks : goal.returns-in-ReadSortBlock-clause-asks
unfolding tried
returns-in-ReadSortBlock-clause-asks c free device = rw c.in-ReadSortBlock.is refl

pub returns-in-ReadOpenDbInfo-clause-asks : goal.returns-in-ReadOpenDbInfo-clause-asks
unfolding tried
returns-in-ReadOpenDbInfo-clause-asks c free device = rw c.in-ReadOpenDbInfo.is refl
