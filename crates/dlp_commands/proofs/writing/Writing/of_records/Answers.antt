-- The request is what it was matched as.
use Rattle.std.proofs.Common.{refl}
use Rattle.dlp_commands.specs.DeviceSteps.{tried}
use Rattle.dlp_commands.proofs.writing.Writing.of_records.Goals as goal

pub returns-in-WriteRecord-clause-asks : goal.returns-in-WriteRecord-clause-asks
unfolding tried
returns-in-WriteRecord-clause-asks c =
    rw c.in-WriteRecord.is (record {
      same = λ free device. refl;
      may = λ free device may. may;
      short = λ fits. fits.1.1.1.1.1;
    })

pub returns-in-DeleteRecord-clause-asks : goal.returns-in-DeleteRecord-clause-asks
unfolding tried
returns-in-DeleteRecord-clause-asks c =
    rw c.in-DeleteRecord.is (record {
      same = λ free device. refl;
      may = λ free device may. tt;
      short = λ fits. tt;
    })

pub returns-in-ResetSyncFlags-clause-asks : goal.returns-in-ResetSyncFlags-clause-asks
unfolding tried
returns-in-ResetSyncFlags-clause-asks c =
    rw c.in-ResetSyncFlags.is (record {
      same = λ free device. refl;
      may = λ free device may. tt;
      short = λ fits. tt;
    })

pub returns-in-MoveCategory-clause-asks : goal.returns-in-MoveCategory-clause-asks
unfolding tried
returns-in-MoveCategory-clause-asks c =
    rw c.in-MoveCategory.is (record {
      same = λ free device. refl;
      may = λ free device may. tt;
      short = λ fits. tt;
    })
