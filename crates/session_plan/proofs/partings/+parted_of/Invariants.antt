-- What a slot keeps of databases, one after another.
use Rattle.std.proofs.Common.{length}
use Rattle.session_plan.proofs.partings.+parted_of.Given as goal

abbrev pub decreases-parted_of : goal.decreases-parted_of
decreases-parted_of g l = length l.planned.now
