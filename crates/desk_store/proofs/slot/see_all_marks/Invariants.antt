use Rattle.std.proofs.Common.{take}
use Rattle.std.specs.List.{AllByRecursion}
use Rattle.desk_store.specs.Bounds.{AreBoundedMarks}
use Rattle.desk_store.proofs.slot.see_all_marks.Given as goal

abbrev pub invariant-loop-info : goal.invariant-loop-info
invariant-loop-info l = AllByRecursion (λ info. AreBoundedMarks info.marks) (take l.info-index l.infos)
