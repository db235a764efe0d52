use Rattle.std.proofs.Common.{refl}
use Rattle.dlp_commands.specs.DeviceSteps.{served}
use Rattle.dlp_commands.proofs.laws.refused_changes_nothing.Goals as goal

pub returns-clause-refused : goal.returns-clause-refused
unfolding served
returns-clause-refused c old free code bytes value read refused = rw (read, refused) refl

pub returns-clause-no_request : goal.returns-clause-no_request
unfolding served
returns-clause-no_request c old free bytes fault read = rw read refl
