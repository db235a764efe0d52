use Rattle.record_merge.proofs.PutLaws.{differ-ids}
use Rattle.record_merge.proofs.HeldLaws.{sides-equal}
use Rattle.record_merge.proofs.CountLaws.{honest-merged}
use Rattle.record_merge.proofs.laws.both_sides_are_equal.Goals as goal

pub returns-clause-equal : goal.returns-clause-equal
returns-clause-equal c = λ ch handheld given records sees.
    sides-equal ch handheld given records (differ-ids records sees.are.ids) sees.are.bounded sees.shows sees.free

pub returns-clause-honest : goal.returns-clause-honest
returns-clause-honest c =
    λ ch handheld given records sees. honest-merged ch handheld given records (differ-ids records sees.are.ids) sees.are.bounded sees.shows sees.free
