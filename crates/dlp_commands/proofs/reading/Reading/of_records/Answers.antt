-- The request is what it was matched as.
use Rattle.std.proofs.Common.{refl}
use Rattle.dlp_commands.specs.DeviceSteps.{tried}
use Rattle.dlp_commands.proofs.reading.Reading.of_records.Goals as goal

pub returns-in-ReadRecordIdList-clause-asks : goal.returns-in-ReadRecordIdList-clause-asks
unfolding tried
returns-in-ReadRecordIdList-clause-asks c free device = rw c.in-ReadRecordIdList.is refl

pub returns-in-ReadRecordById-clause-asks : goal.returns-in-ReadRecordById-clause-asks
unfolding tried
returns-in-ReadRecordById-clause-asks c free device = rw c.in-ReadRecordById.is refl

pub returns-in-ReadRecordByIndex-clause-asks : goal.returns-in-ReadRecordByIndex-clause-asks
unfolding tried
returns-in-ReadRecordByIndex-clause-asks c free device = rw c.in-ReadRecordByIndex.is refl
