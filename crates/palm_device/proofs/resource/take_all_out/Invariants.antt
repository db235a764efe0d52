use Rattle.std.proofs.Common.{◌≡◌, length}
use Rattle.palm_device.specs.Resources.{with_resources}
use Rattle.palm_device.proofs.resource.take_all_out.Given as goal

abbrev pub invariant-loop-database : goal.invariant-loop-database
invariant-loop-database l = l.database ≡ with_resources l.database.resources l.fn.database

abbrev pub decreases-loop-database : goal.decreases-loop-database
decreases-loop-database l = length l.database.resources
