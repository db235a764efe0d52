-- The request is what it was matched as.
use Rattle.std.proofs.Common.{refl}
use Rattle.dlp_commands.specs.DeviceSteps.{tried}
use Rattle.dlp_commands.proofs.writing.Writing.of.Goals as goal

pub returns-in-WriteAppBlock-clause-asks : goal.returns-in-WriteAppBlock-clause-asks
unfolding tried
returns-in-WriteAppBlock-clause-asks c =
    rw c.in-WriteAppBlock.is (record {
      same = λ free device. refl;
      may = λ free device may. tt;
      short = λ fits. fits.1.1;
    })

pub returns-in-WriteSortBlock-clause-asks : goal.returns-in-WriteSortBlock-clause-asks
unfolding tried
returns-in-WriteSortBlock-clause-asks c =
    rw c.in-WriteSortBlock.is (record {
      same = λ free device. refl;
      may = λ free device may. tt;
      short = λ fits. fits.1.1;
    })

pub returns-in-CleanUpDatabase-clause-asks : goal.returns-in-CleanUpDatabase-clause-asks
unfolding tried
returns-in-CleanUpDatabase-clause-asks c =
    rw c.in-CleanUpDatabase.is (record {
      same = λ free device. refl;
      may = λ free device may. tt;
      short = λ fits. tt;
    })

pub returns-in-WriteResource-clause-asks : goal.returns-in-WriteResource-clause-asks
unfolding tried
returns-in-WriteResource-clause-asks c =
    rw c.in-WriteResource.is (record {
      same = λ free device. refl;
      may = λ free device may. tt;
      short = λ fits. fits.1.1.1.1;
    })

pub returns-in-DeleteResource-clause-asks : goal.returns-in-DeleteResource-clause-asks
unfolding tried
returns-in-DeleteResource-clause-asks c =
    rw c.in-DeleteResource.is (record {
      same = λ free device. refl;
      may = λ free device may. tt;
      short = λ fits. tt;
    })
