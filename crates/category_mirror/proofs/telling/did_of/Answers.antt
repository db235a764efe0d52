-- No more records are moved than there are.
use Rattle.std.proofs.Common.{arith}
use Rattle.palm_device.proofs.BoundLaws.{length-filter}
use Rattle.category_mirror.specs.Refiled.{is_moved}
use Rattle.category_mirror.proofs.telling.did_of.Goals as goal

pub overflow_cast-result : goal.overflow_cast-result
overflow_cast-result c =
    omega (arith, c.moved_count.ensures, c.records_of.ensures.few, length-filter (is_moved c.in-Some-merge.merge.numbers) c.records_of.result.now)
